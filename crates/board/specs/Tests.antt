-- The tests of Degree are exact: `vertex?` is true exactly at the corners of cells, `edge?` exactly at their sides.
-- Assumes nothing: the laws hold on any board, within the limits or not.
use Rattle.std.specs.Prelude.{◌≡◌, refl, Bool, true, ◌&&◌, ◌||◌, ◌⊎◌, ◌↔◌, ℕ, suc, ◌+◌, ◌-◌, leb, ltb}
use Rattle.std.proofs.Common.{inl, inr, arith, leb-true, le-leb, ltb-true, lt-ltb}
use Rattle.count.specs.TruthLaws.{and_true, and_yes, or_true, or_left, or_right}
use Rattle.board.specs.Board.{
  Board,
  height,
  left,
  right,
  Cell,
  at,
  Edge,
  edge,
  Corner,
  top_left,
  top_right,
  bottom_left,
  bottom_right,
  Side,
  top_side,
  bottom_side,
  left_side,
  right_side,
  IsVertex,
  IsEdge,
}
use Rattle.board.specs.Path.{along}
use Rattle.board.specs.Degree.{cell?, below_right, below_left, above_right, above_left, vertex?, edge?}
use Rattle.board.specs.declared.Vertex.{Vertex}
use Rattle.board.specs.declared.Direction.{Direction}
use Rattle.board.specs.declared.Direction.TheVariants.{Up, Right, Down, Left}

pub cell_exact : (b : Board) (i j : ℕ) → (cell? b i j ≡ true) ↔ Cell b i j
cell_exact b i j = (
  λ e.
      let k = and_true (ltb i (height b)) (leb (left b i) j && ltb j (right b i)) e in
      let m = and_true (leb (left b i) j) (ltb j (right b i)) k.1 in
      record { row = ltb-true _ _ k.0; from = leb-true _ _ m.0; to = ltb-true _ _ m.1 },
  λ c.
      and_yes (ltb i (height b)) (leb (left b i) j && ltb j (right b i)) (lt-ltb _ _ c.row)
      (and_yes (leb (left b i) j) (ltb j (right b i)) (le-leb _ _ c.from) (lt-ltb _ _ c.to)),
)

-- ── the cells that meet at v: one of the board's whose top left corner is m lines above v and n columns left of it ──
pub record Meets (b : Board) (v : Vertex) (m n : ℕ) : Type 0 where
  pub i : ℕ
  pub j : ℕ
  pub cell : Cell b i j
  pub line : v.line ≡ i + m
  pub column : v.column ≡ j + n

pub below-right : (b : Board) (v : Vertex) → (below_right b v ≡ true) ↔ Meets b v 0 0
unfolding below_right
below-right b v = (
  λ e. record { i = v.line; j = v.column; cell = (cell_exact b v.line v.column).0 e; line = omega arith; column = omega arith },
  λ h.
      let p : v.line ≡ h.i = omega (arith, h.line) in let q : v.column ≡ h.j = omega (arith, h.column) in
      rw (p, q) ((cell_exact b h.i h.j).1 h.cell),
)

pub below-left : (b : Board) (v : Vertex) → (below_left b v ≡ true) ↔ Meets b v 0 1
unfolding below_left
below-left b v = (
  λ e.
      let k = and_true (ltb 0 v.column) (cell? b v.line (v.column - 1)) e in
      let h = ltb-true 0 v.column k.0 in
      record { i = v.line; j = v.column - 1; cell = (cell_exact b v.line (v.column - 1)).0 k.1; line = omega arith; column = omega arith },
  λ h.
      let p : v.line ≡ h.i = omega (arith, h.line) in let q : v.column - 1 ≡ h.j = omega (arith, h.column) in
      and_yes (ltb 0 v.column) (cell? b v.line (v.column - 1)) (lt-ltb 0 v.column (omega (arith, h.column)))
      (rw (p, q) ((cell_exact b h.i h.j).1 h.cell)),
)

pub above-right : (b : Board) (v : Vertex) → (above_right b v ≡ true) ↔ Meets b v 1 0
unfolding above_right
above-right b v = (
  λ e.
      let k = and_true (ltb 0 v.line) (cell? b (v.line - 1) v.column) e in
      let h = ltb-true 0 v.line k.0 in
      record { i = v.line - 1; j = v.column; cell = (cell_exact b (v.line - 1) v.column).0 k.1; line = omega arith; column = omega arith },
  λ h.
      let p : v.line - 1 ≡ h.i = omega (arith, h.line) in let q : v.column ≡ h.j = omega (arith, h.column) in
      and_yes (ltb 0 v.line) (cell? b (v.line - 1) v.column) (lt-ltb 0 v.line (omega (arith, h.line)))
      (rw (p, q) ((cell_exact b h.i h.j).1 h.cell)),
)

pub above-left : (b : Board) (v : Vertex) → (above_left b v ≡ true) ↔ Meets b v 1 1
unfolding above_left
above-left b v = (
  λ e.
      let k = and_true (ltb 0 v.line && ltb 0 v.column) (cell? b (v.line - 1) (v.column - 1)) e in
      let m = and_true (ltb 0 v.line) (ltb 0 v.column) k.0 in
      let h = ltb-true 0 v.line m.0 in let g = ltb-true 0 v.column m.1 in
      record {
        i = v.line - 1;
        j = v.column - 1;
        cell = (cell_exact b (v.line - 1) (v.column - 1)).0 k.1;
        line = omega arith;
        column =
            omega arith;
      },
  λ h.
      let p : v.line - 1 ≡ h.i = omega (arith, h.line) in let q : v.column - 1 ≡ h.j = omega (arith, h.column) in
      and_yes (ltb 0 v.line && ltb 0 v.column) (cell? b (v.line - 1) (v.column - 1))
      (and_yes (ltb 0 v.line) (ltb 0 v.column) (lt-ltb 0 v.line (omega (arith, h.line))) (lt-ltb 0 v.column (omega (arith, h.column))))
      (rw (p, q) ((cell_exact b h.i h.j).1 h.cell)),
)

-- ── a corner, by lines and columns ──
pub corner_at : (i j l c : ℕ) → (l ≡ i) ⊎ (l ≡ suc i) → (c ≡ j) ⊎ (c ≡ suc j) → Corner i j (at l c)
corner_at i j l c (inl p) (inl q) = rw (p, q) top_left
corner_at i j l c (inl p) (inr q) = rw (p, q) top_right
corner_at i j l c (inr p) (inl q) = rw (p, q) bottom_left
corner_at i j l c (inr p) (inr q) = rw (p, q) bottom_right

-- a cell of the board meets at each of its corners
pub corner_meets : {b : Board} {i j : ℕ} → Cell b i j → (v : Vertex) → Corner i j v
    → (Meets b v 0 0 ⊎ Meets b v 0 1) ⊎ (Meets b v 1 0 ⊎ Meets b v 1 1)
corner_meets {b} {i} {j} c v top_left = inl (inl (record { i = i; j = j; cell = c; line = omega arith; column = omega arith }))
corner_meets {b} {i} {j} c v top_right = inl (inr (record { i = i; j = j; cell = c; line = omega arith; column = omega arith }))
corner_meets {b} {i} {j} c v bottom_left = inr (inl (record { i = i; j = j; cell = c; line = omega arith; column = omega arith }))
corner_meets {b} {i} {j} c v bottom_right = inr (inr (record { i = i; j = j; cell = c; line = omega arith; column = omega arith }))

meets_vertex : (b : Board) (v : Vertex) (m n : ℕ) → (m ≡ 0) ⊎ (m ≡ 1) → (n ≡ 0) ⊎ (n ≡ 1) → Meets b v m n → IsVertex b v
meets_vertex b v m n p q h = (h.i, h.j, h.cell, corner_at h.i h.j v.line v.column (one_of h.line p) (one_of h.column q))
  where
    one_of : {x i k : ℕ} → x ≡ i + k → (k ≡ 0) ⊎ (k ≡ 1) → (x ≡ i) ⊎ (x ≡ suc i)
    one_of e (inl f) = inl (omega arith)
    one_of e (inr f) = inr (omega arith)

pub vertex_exact : (b : Board) (v : Vertex) → (vertex? b v ≡ true) ↔ IsVertex b v
unfolding vertex?
vertex_exact b v = (
  λ e. elim (or_true (above_left b v || above_right b v) (below_left b v || below_right b v) e) [
    | inl f ↦ elim (or_true (above_left b v) (above_right b v) f) [
      | inl g ↦ meets_vertex b v 1 1 (inr refl) (inr refl) ((above-left b v).0 g)
      | inr g ↦ meets_vertex b v 1 0 (inr refl) (inl refl) ((above-right b v).0 g)
    ]
    | inr f ↦ elim (or_true (below_left b v) (below_right b v) f) [
      | inl g ↦ meets_vertex b v 0 1 (inl refl) (inr refl) ((below-left b v).0 g)
      | inr g ↦ meets_vertex b v 0 0 (inl refl) (inl refl) ((below-right b v).0 g)
    ]
  ],
  λ (i, j, c, k). elim (corner_meets c v k) [
    | inl (inl h) ↦ or_right (above_left b v || above_right b v) (below_left b v || below_right b v)
        (or_right (below_left b v) (below_right b v) ((below-right b v).1 h))
    | inl (inr h) ↦ or_right (above_left b v || above_right b v) (below_left b v || below_right b v)
        (or_left (below_left b v) (below_right b v) ((below-left b v).1 h))
    | inr (inl h) ↦ or_left (above_left b v || above_right b v) (below_left b v || below_right b v)
        (or_right (above_left b v) (above_right b v) ((above-right b v).1 h))
    | inr (inr h) ↦ or_left (above_left b v || above_right b v) (below_left b v || below_right b v)
        (or_left (above_left b v) (above_right b v) ((above-left b v).1 h))
  ],
)

-- ── a side, by lines and columns ──
pub side_across : (i j l c e : ℕ) → c ≡ j → e ≡ suc j → (l ≡ i) ⊎ (l ≡ suc i) → Side i j (edge (at l c) (at l e))
side_across i j l c e p q (inl r) = rw (p, q, r) top_side
side_across i j l c e p q (inr r) = rw (p, q, r) bottom_side

pub side_down : (i j l m c : ℕ) → l ≡ i → m ≡ suc i → (c ≡ j) ⊎ (c ≡ suc j) → Side i j (edge (at l c) (at m c))
side_down i j l m c p q (inl r) = rw (p, q, r) left_side
side_down i j l m c p q (inr r) = rw (p, q, r) right_side

-- the top or the bottom of the cell (i, j)
pub record Across (i j : ℕ) (e : Edge) : Type 0 where
  pub level : e.to.line ≡ e.from.line
  pub start : e.from.column ≡ j
  pub end : e.to.column ≡ suc j
  pub touch : (e.from.line ≡ i) ⊎ (e.from.line ≡ suc i)

-- its left or right side
pub record Downward (i j : ℕ) (e : Edge) : Type 0 where
  pub plumb : e.to.column ≡ e.from.column
  pub start : e.from.line ≡ i
  pub end : e.to.line ≡ suc i
  pub touch : (e.from.column ≡ j) ⊎ (e.from.column ≡ suc j)

pub side_case : {i j : ℕ} {e : Edge} → Side i j e → Across i j e ⊎ Downward i j e
side_case top_side = inl (record { level = refl; start = refl; end = refl; touch = inl refl })
side_case bottom_side = inl (record { level = refl; start = refl; end = refl; touch = inr refl })
side_case left_side = inr (record { plumb = refl; start = refl; end = refl; touch = inl refl })
side_case right_side = inr (record { plumb = refl; start = refl; end = refl; touch = inr refl })

-- ── an edge that leaves v is a side of one of the two cells beside it ──
module _ (b : Board) (v : Vertex) where
  beside-up : IsEdge b (along Up v) ↔ (Meets b v 1 1 ⊎ Meets b v 1 0)
  beside-up = (
    λ (i, j, c, k). elim (side_case k) [
      | inl a ↦ absurd (omega (arith, a.start, a.end))
      | inr d ↦ elim d.touch [
        | inl t ↦ inr (record { i = i; j = j; cell = c; line = omega (arith, d.end); column = omega arith })
        | inr t ↦ inl (record { i = i; j = j; cell = c; line = omega (arith, d.end); column = omega arith })
      ]
    ],
    λ h. elim h [
      | inl m ↦ (
        m.i,
        m.j,
        m.cell,
        side_down m.i m.j (v.line - 1) v.line v.column (omega (arith, m.line)) (omega (arith, m.line))
            (inr (omega (arith, m.column))),
      )
      | inr m ↦ (
        m.i,
        m.j,
        m.cell,
        side_down m.i m.j (v.line - 1) v.line v.column (omega (arith, m.line)) (omega (arith, m.line))
            (inl (omega (arith, m.column))),
      )
    ],
  )

  beside-right : IsEdge b (along Right v) ↔ (Meets b v 1 0 ⊎ Meets b v 0 0)
  beside-right = (
    λ (i, j, c, k). elim (side_case k) [
      | inl a ↦ elim a.touch [
        | inl t ↦ inr (record { i = i; j = j; cell = c; line = omega arith; column = omega (arith, a.start) })
        | inr t ↦ inl (record { i = i; j = j; cell = c; line = omega arith; column = omega (arith, a.start) })
      ]
      | inr d ↦ absurd (omega (arith, d.plumb))
    ],
    λ h. elim h [
      | inl m ↦ (
        m.i,
        m.j,
        m.cell,
        side_across m.i m.j v.line v.column (suc v.column) (omega (arith, m.column))
            (omega (arith, m.column)) (inr (omega (arith, m.line))),
      )
      | inr m ↦ (
        m.i,
        m.j,
        m.cell,
        side_across m.i m.j v.line v.column (suc v.column) (omega (arith, m.column))
            (omega (arith, m.column)) (inl (omega (arith, m.line))),
      )
    ],
  )

  beside-down : IsEdge b (along Down v) ↔ (Meets b v 0 1 ⊎ Meets b v 0 0)
  beside-down = (
    λ (i, j, c, k). elim (side_case k) [
      | inl a ↦ absurd (omega (arith, a.level))
      | inr d ↦ elim d.touch [
        | inl t ↦ inr (record { i = i; j = j; cell = c; line = omega (arith, d.start); column = omega arith })
        | inr t ↦ inl (record { i = i; j = j; cell = c; line = omega (arith, d.start); column = omega arith })
      ]
    ],
    λ h. elim h [
      | inl m ↦ (
        m.i,
        m.j,
        m.cell,
        side_down m.i m.j v.line (suc v.line) v.column (omega (arith, m.line)) (omega (arith, m.line))
            (inr (omega (arith, m.column))),
      )
      | inr m ↦ (
        m.i,
        m.j,
        m.cell,
        side_down m.i m.j v.line (suc v.line) v.column (omega (arith, m.line)) (omega (arith, m.line))
            (inl (omega (arith, m.column))),
      )
    ],
  )

  beside-left : IsEdge b (along Left v) ↔ (Meets b v 1 1 ⊎ Meets b v 0 1)
  beside-left = (
    λ (i, j, c, k). elim (side_case k) [
      | inl a ↦ elim a.touch [
        | inl t ↦ inr (record { i = i; j = j; cell = c; line = omega arith; column = omega (arith, a.end) })
        | inr t ↦ inl (record { i = i; j = j; cell = c; line = omega arith; column = omega (arith, a.end) })
      ]
      | inr d ↦ absurd (omega (arith, d.start, d.end))
    ],
    λ h. elim h [
      | inl m ↦ (
        m.i,
        m.j,
        m.cell,
        side_across m.i m.j v.line (v.column - 1) v.column (omega (arith, m.column))
            (omega (arith, m.column)) (inr (omega (arith, m.line))),
      )
      | inr m ↦ (
        m.i,
        m.j,
        m.cell,
        side_across m.i m.j v.line (v.column - 1) v.column (omega (arith, m.column))
            (omega (arith, m.column)) (inl (omega (arith, m.line))),
      )
    ],
  )

either : {P Q : Type 0} (s t : Bool) → ((s ≡ true) ↔ P) → ((t ≡ true) ↔ Q) → (s || t ≡ true) ↔ (P ⊎ Q)
either s t p q = (
  λ e. elim (or_true s t e) [ inl f ↦ inl (p.0 f) | inr f ↦ inr (q.0 f) ],
  λ h. elim h [ inl x ↦ or_left s t (p.1 x) | inr x ↦ or_right s t (q.1 x) ],
)

back : {A P Q : Type 0} → (A ↔ P) → (Q ↔ P) → A ↔ Q
back f g = (λ a. g.1 (f.0 a), λ q. f.1 (g.0 q))

pub edge_exact : (b : Board) (d : Direction) (v : Vertex) → (edge? b d v ≡ true) ↔ IsEdge b (along d v)
unfolding edge?
edge_exact b Up v = back (either (above_left b v) (above_right b v) (above-left b v) (above-right b v)) (beside-up b v)
edge_exact b Right v = back (either (above_right b v) (below_right b v) (above-right b v) (below-right b v)) (beside-right b v)
edge_exact b Down v = back (either (below_left b v) (below_right b v) (below-left b v) (below-right b v)) (beside-down b v)
edge_exact b Left v = back (either (above_left b v) (below_left b v) (above-left b v) (below-left b v)) (beside-left b v)
