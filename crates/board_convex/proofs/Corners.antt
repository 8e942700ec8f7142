-- The degree of a vertex is 2, 3 or 4, and a concave corner has degree 4 and no pin. On a convex board no two cells touch at a corner
-- only, so that the number of cells that meet at a vertex gives its degree.
-- Assumes nothing of the board, but for the last section that it is within the limits and convex.
use Rattle.std.specs.Prelude.{◌≡◌, refl, Bool, true, false, ◌&&◌, ◌||◌, ◌⊎◌, ℕ, suc, ◌+◌, ◌≤◌, ◌<◌, min}
use Rattle.std.proofs.Math.Path.{ap}
use Rattle.std.proofs.Math.Logic.{inl, inr}
use Rattle.std.proofs.Common.{arith}
use Rattle.count.specs.Truth.{one}
use Rattle.count.specs.TruthLaws.{bool, and_true, or_true}
use Rattle.board.specs.Board.{Board, Within, height, left, right, IsVertex}
use Rattle.board.specs.Path.{Convex}
use Rattle.board.specs.Degree.{below_right, below_left, above_right, above_left, vertex?, edge?, degree, pins}
use Rattle.board.specs.Tests.{Meets, corner_meets, below-right, below-left, above-right, above-left}
use Rattle.board.specs.declared.Vertex.{Vertex}
use Rattle.board_convex.proofs.Needed.{convex-nested}
use Rattle.board_convex.specs.Cells.{cells_at, Concave}

-- ── a vertex has a cell ──
some_cell : (b : Board) (v : Vertex) → IsVertex b v → 1 ≤ cells_at b v
unfolding cells_at
some_cell b v (i, j, c, k) = elim (corner_meets c v k) [
  | inl (inl h) ↦ omega (arith, ap one ((below-right b v).1 h))
  | inl (inr h) ↦ omega (arith, ap one ((below-left b v).1 h))
  | inr (inl h) ↦ omega (arith, ap one ((above-right b v).1 h))
  | inr (inr h) ↦ omega (arith, ap one ((above-left b v).1 h))
]

-- ── the degree by the four cells: p and q above, r and s below, p and r left, q and s right ──
abbrev pub cells : (p q r s : Bool) → ℕ
cells p q r s = (one p + one q) + (one r + one s)

abbrev pub edges : (p q r s : Bool) → ℕ
edges p q r s = (one (p || q) + one (q || s)) + (one (r || s) + one (p || r))

-- one cell has 2 edges at the vertex, two have 3, three or four have 4; but two that touch at the vertex only have 4
table : (p q r s : Bool) → 1 ≤ cells p q r s
    → (edges p q r s ≡ suc (min 3 (cells p q r s))) ⊎ ((cells p q r s ≡ 2) × (edges p q r s ≡ 4) × ((p && s) || (q && r) ≡ true))
table true true true true h = inl refl
table true true true false h = inl refl
table true true false true h = inl refl
table true true false false h = inl refl
table true false true true h = inl refl
table true false true false h = inl refl
table true false false true h = inr (refl, refl, refl)
table true false false false h = inl refl
table false true true true h = inl refl
table false true true false h = inr (refl, refl, refl)
table false true false true h = inl refl
table false true false false h = inl refl
table false false true true h = inl refl
table false false true false h = inl refl
table false false false true h = inl refl
table false false false false h = absurd (omega arith)

degree_edges : (b : Board) (v : Vertex) → degree b v ≡ edges (above_left b v) (above_right b v) (below_left b v) (below_right b v)
unfolding degree edge?
degree_edges b v = refl

degree_table : (b : Board) (v : Vertex) → 1 ≤ cells_at b v
    → (degree b v ≡ suc (min 3 (cells_at b v)))
    ⊎ ((cells_at b v ≡ 2) × (degree b v ≡ 4) × ((above_left b v && below_right b v) || (above_right b v && below_left b v) ≡ true))
unfolding cells_at
degree_table b v h = rw (degree_edges b v) (table (above_left b v) (above_right b v) (below_left b v) (below_right b v) h)

-- ── any board ──
-- "The degree of a vertex is its count of edges, 2 to 4."
pub degree_range : (b : Board) (v : Vertex) → IsVertex b v → (2 ≤ degree b v) × (degree b v ≤ 4)
degree_range b v p = let h = some_cell b v p in elim (degree_table b v h) [
  | inl e ↦ (omega arith, omega arith)
  | inr e ↦ (omega (arith, e.1), omega (arith, e.1))
]

-- "A concave corner has degree 4 and no pin."
pub concave_degree : (b : Board) (v : Vertex) → Concave b v → degree b v ≡ 4
concave_degree b v h = elim (degree_table b v (omega arith)) [
  | inl e ↦ omega arith
  | inr e ↦ e.1
]

pub concave_pins : (b : Board) (v : Vertex) → Concave b v → pins b v ≡ 0
unfolding pins
concave_pins b v h = elim (bool (vertex? b v)) [
  | inl e ↦ rw (e, concave_degree b v h) refl
  | inr e ↦ rw e refl
]

-- ── a convex board ──
module _ (b : Board) (W : Within b) (C : Convex b) (v : Vertex) where
  -- a cell in the row of one cell and the column of another
  beside : {i j m n : ℕ} → i < height b → left b i ≤ j → j < right b i → v.line ≡ i + m → v.column ≡ j + n → Meets b v m n
  beside {i} {j} r p q l c = record { i = i; j = j; cell = record { row = r; from = p; to = q }; line = l; column = c }

  -- where the cells above left and below right of v are both the board's, so is one of the two others
  pub falling-pair : above_left b v ≡ true → below_right b v ≡ true → (above_right b v ≡ true) ⊎ (below_left b v ≡ true)
  falling-pair e f =
      let p = (above-left b v).0 e in let q = (below-right b v).0 f in let c = p.cell in let d = q.cell in
      elim (convex-nested b W C p.i q.i c.row d.row) [
        | inl t ↦ inl ((above-right b v).1 (beside c.row (omega arith) (omega arith) p.line q.column))
        | inr t ↦ inr ((below-left b v).1 (beside d.row (omega arith) (omega arith) q.line p.column))
      ]

  -- and likewise above right and below left
  pub rising-pair : above_right b v ≡ true → below_left b v ≡ true → (above_left b v ≡ true) ⊎ (below_right b v ≡ true)
  rising-pair e f =
      let p = (above-right b v).0 e in let q = (below-left b v).0 f in let c = p.cell in let d = q.cell in
      elim (convex-nested b W C p.i q.i c.row d.row) [
        | inl t ↦ inl ((above-left b v).1 (beside c.row (omega arith) (omega arith) p.line q.column))
        | inr t ↦ inr ((below-right b v).1 (beside d.row (omega arith) (omega arith) q.line p.column))
      ]

  never-diagonal : cells_at b v ≡ 2 → (above_left b v && below_right b v) || (above_right b v && below_left b v) ≡ true → ⊥
  unfolding cells_at
  never-diagonal n h = elim (or_true (above_left b v && below_right b v) (above_right b v && below_left b v) h) [
    | inl k ↦ let t = and_true (above_left b v) (below_right b v) k in elim (falling-pair t.0 t.1) [
      | inl m ↦ omega (arith, ap one t.0, ap one t.1, ap one m)
      | inr m ↦ omega (arith, ap one t.0, ap one t.1, ap one m)
    ]
    | inr k ↦ let t = and_true (above_right b v) (below_left b v) k in elim (rising-pair t.0 t.1) [
      | inl m ↦ omega (arith, ap one t.0, ap one t.1, ap one m)
      | inr m ↦ omega (arith, ap one t.0, ap one t.1, ap one m)
    ]
  ]

  -- one cell at a vertex: degree 2; two: 3; three or four: 4
  pub degree-of-cells : IsVertex b v → degree b v ≡ suc (min 3 (cells_at b v))
  degree-of-cells p = elim (degree_table b v (some_cell b v p)) [
    | inl e ↦ e
    | inr e ↦ absurd (never-diagonal e.0 e.2)
  ]
