-- The lines of a convex board: a line's vertices are the columns of the wider of the rows that touch it, neighbouring vertices are always
-- joined by an edge, and the vertical edges of a row are its columns.
-- Assumes that the board is within the limits, and from "a convex board" on that it is convex.
use Rattle.std.specs.Prelude.{◌≡◌, ◌↔◌, ltb}
use Rattle.std.proofs.Math.Path.{refl}
use Rattle.std.proofs.Common.{ap}
use Rattle.std.proofs.Math.Logic.{inl, inr}
use Prim.Native.Nat.{ℕ, zero, suc, ◌-◌, ◌≤◌, ◌<◌}
use native.Mathlib.Omega.{arith}
use borrow.Author.Tests.{ltb-true, ltb-false}
use Rattle.count.specs.TruthLaws.{bool, le_or_lt}
use Rattle.board.specs.Board.{Board, Within, height, left, right, at, edge, IsVertex, IsEdge}
use Rattle.board.specs.Path.{next, along, Convex}
use Rattle.board.specs.declared.Vertex.{Vertex}
use Rattle.board.specs.declared.Direction.{Direction}
use Rattle.board.specs.declared.Direction.TheVariants.{Up, Right, Down, Left}
use Rattle.board_convex.proofs.Places.{
  InRow,
  vertex_in_row,
  HasColumn,
  vertex_on_top,
  vertex_at_bottom,
  edge_ends,
  down_column,
  column_down,
  cell_across,
}
use Rattle.board_convex.proofs.Needed.{convex-nested, convex-regrow}
use Rattle.board_convex.proofs.Between.{between-contains}
use Rattle.board_convex.specs.LineEnds.{Touches, line_left, line_right}

-- ── a line and the rows that touch it, on any board ──
pub line_spans_row : (b : Board) (i l : ℕ) → Touches b i l → (line_left b l ≤ left b i) × (right b i ≤ line_right b l)
unfolding line_left line_right
line_spans_row b i zero t = let e : i ≡ 0 = omega arith in rw e (omega arith, omega arith)
line_spans_row b i (suc k) t = elim (bool (ltb (suc k) (height b))) [
  | inl h ↦ elim (le_or_lt i k) [
    | inl p ↦ let e : i ≡ k = omega arith in rw (e, h) (omega arith, omega arith)
    | inr p ↦ let e : i ≡ suc k = omega arith in rw (e, h) (omega arith, omega arith)
  ]
  | inr h ↦ let f = ltb-false (suc k) (height b) h in let e : i ≡ k = omega arith in rw (e, h) (omega arith, omega arith)
]

-- ── edges of any board ──
-- the vertical edges of row i are all its columns
pub row_edges : (b : Board) → Within b → (i c : ℕ) → IsEdge b (edge (at i c) (at (suc i) c)) ↔ ((i < height b) × (left b i ≤ c) × (c ≤ right b i))
row_edges b W i c = (
  λ e. let k = down_column b i c e in (k.row, k.from, k.to),
  λ h. column_down b i c (suc i) (W.cells i h.0) (record { row = h.0; from = h.1; to = h.2 }) refl,
)

-- what an edge joins: neighbouring vertices
pub edge_joins : (b : Board) (d : Direction) (v : Vertex) → IsEdge b (along d v) → IsVertex b v × IsVertex b (next d v)
edge_joins b Up v e = let k = edge_ends b (along Up v) e in (k.1, k.0)
edge_joins b Right v e = edge_ends b (along Right v) e
edge_joins b Down v e = edge_ends b (along Down v) e
edge_joins b Left v e = let k = edge_ends b (along Left v) e in (k.1, k.0)

-- ── a convex board ──
module _ (b : Board) (W : Within b) (C : Convex b) where
  -- a line runs just as one of its rows, the wider
  pub line-is-row : (l : ℕ) → l ≤ height b → (r : ℕ) × Touches b r l × (line_left b l ≡ left b r) × (line_right b l ≡ right b r)
  unfolding line_left line_right
  line-is-row zero h = (0, record { row = omega (arith, W.some); low = omega arith; high = omega arith }, refl, refl)
  line-is-row (suc k) h = elim (bool (ltb (suc k) (height b))) [
    | inl e ↦ let m = ltb-true (suc k) (height b) e in elim (convex-nested b W C k (suc k) (omega arith) m) [
      | inl t ↦ (k, record { row = omega arith; low = omega arith; high = omega arith }, rw e (omega arith), rw e (omega arith))
      | inr t ↦ (suc k, record { row = m; low = omega arith; high = omega arith }, rw e (omega arith), rw e (omega arith))
    ]
    | inr e ↦ (k, record { row = omega arith; low = omega arith; high = omega arith }, rw e refl, rw e refl)
  ]

  -- ── vertices ──
  row-vertex : (r l c : ℕ) → Touches b r l → left b r ≤ c → c ≤ right b r → IsVertex b (at l c)
  row-vertex r l c t p q =
      let k : HasColumn b r c = record { row = t.row; from = p; to = q } in
      elim (le_or_lt l r) [
        | inl g ↦ let e : l ≡ r = omega arith in rw e (vertex_on_top b r c (W.cells r t.row) k)
        | inr g ↦ let e : l ≡ suc r = omega arith in rw e (vertex_at_bottom b r c (W.cells r t.row) k)
      ]

  -- the vertices of line l are all the columns from its left end to its right end
  pub line-vertices : (l c : ℕ) → IsVertex b (at l c) ↔ ((l ≤ height b) × (line_left b l ≤ c) × (c ≤ line_right b l))
  line-vertices l c = (
    λ v.
        let k = vertex_in_row b (at l c) v in let i = k.0 in let x = k.1 in
        let s = line_spans_row b i l (record { row = x.row; low = x.low; high = x.high }) in
        (omega (arith, x.row, x.high), omega (arith, x.from), omega (arith, x.to)),
    λ h.
        let r = line-is-row l h.0 in
        row-vertex r.0 l c r.1 (omega (arith, r.2, h.1)) (omega (arith, r.3, h.2)),
  )

  -- ── edges ──
  joined-down : (i c : ℕ) → IsVertex b (at i c) → IsVertex b (at (suc i) c) → IsEdge b (edge (at i c) (at (suc i) c))
  joined-down i c u v =
      let k = vertex_in_row b (at i c) u in let m = vertex_in_row b (at (suc i) c) v in
      (row_edges b W i c).1 (go k.0 m.0 k.1 m.1)
    where
      -- a vertex of row r above and one of row s below: row i lies between the two rows
      go : (r s : ℕ) → InRow b r (at i c) → InRow b s (at (suc i) c) → (i < height b) × (left b i ≤ c) × (c ≤ right b i)
      go r s x y =
          let xr = x.row in let yr = y.row in let xl = x.low in let yh = y.high in
          let t = between-contains b W (convex-nested b W C) (convex-regrow b W C) r i s (omega arith) (omega arith) yr in
          elim (convex-nested b W C r s xr yr) [
            | inl n ↦ let q = t.0 n in (omega arith, omega arith, omega arith)
            | inr n ↦ let q = t.1 n in (omega arith, omega arith, omega arith)
          ]

  joined-across : (l c : ℕ) → IsVertex b (at l c) → IsVertex b (at l (suc c)) → IsEdge b (edge (at l c) (at l (suc c)))
  joined-across l c u v =
      let p = (line-vertices l c).0 u in let q = (line-vertices l (suc c)).0 v in
      let r = line-is-row l p.0 in let t = r.1 in
      cell_across b r.0 l c (suc c)
      (record { row = t.row; from = omega (arith, r.2, p.1); to = omega (arith, r.3, q.2) }) t.low t.high refl

  -- the edges of line l are all between its left end and its right end
  pub line-edges : (l c : ℕ) → IsEdge b (edge (at l c) (at l (suc c))) ↔ ((l ≤ height b) × (line_left b l ≤ c) × (c < line_right b l))
  line-edges l c = (
    λ e.
        let k = edge_ends b (edge (at l c) (at l (suc c))) e in
        let p = (line-vertices l c).0 k.0 in let q = (line-vertices l (suc c)).0 k.1 in
        (p.0, p.1, omega (arith, q.2)),
    λ h. joined-across l c ((line-vertices l c).1 (h.0, h.1, omega arith)) ((line-vertices l (suc c)).1 (h.0, omega arith, omega arith)),
  )

  -- two neighbouring vertices are always joined: the board has every edge of the grid between its vertices
  pub neighbours-joined : (d : Direction) (v : Vertex) → IsVertex b v → IsVertex b (next d v) → (next d v ≡ v → ⊥) → IsEdge b (along d v)
  neighbours-joined Up v p q o = above v.line v.column p q (λ e. o (ap (λ (l : ℕ). at l v.column) e))
    where
      above : (l c : ℕ) → IsVertex b (at l c) → IsVertex b (at (l - 1) c) → (l - 1 ≡ l → ⊥) → IsEdge b (edge (at (l - 1) c) (at l c))
      above zero c p q o = absurd (o refl)
      above (suc l) c p q o = let e : suc l - 1 ≡ l = omega arith in rw e (joined-down l c (rw e at q) p)
  neighbours-joined Right v p q o = joined-across v.line v.column p q
  neighbours-joined Down v p q o = joined-down v.line v.column p q
  neighbours-joined Left v p q o = before v.line v.column p q (λ e. o (ap (λ (c : ℕ). at v.line c) e))
    where
      before : (l c : ℕ) → IsVertex b (at l c) → IsVertex b (at l (c - 1)) → (c - 1 ≡ c → ⊥) → IsEdge b (edge (at l (c - 1)) (at l c))
      before l zero p q o = absurd (o refl)
      before l (suc c) p q o = let e : suc c - 1 ≡ c = omega arith in rw e (joined-across l c (rw e at q) p)
