-- Vertices and edges of a board as numbers: a vertex is a column of a row, on the row's top or bottom line;
-- a vertical edge is a column of its row; a horizontal edge is the top or the bottom of a cell.
-- Assumes that rows are not empty, where a vertex or an edge is made, and that the board is within the limits, where vertices have lines and columns
-- below 32 (`vertex_placed`).
use Rattle.std.specs.Prelude.{◌≡◌, refl, ◌⊎◌, ℕ, suc, ◌-◌, ◌≤◌, ◌<◌}
use Rattle.std.proofs.Common.{inl, inr, arith}
use Rattle.count.specs.TruthLaws.{le_or_lt}
use Rattle.board.specs.Board.{
  Board,
  Within,
  height,
  left,
  right,
  Cell,
  at,
  Edge,
  edge,
  Corner,
  top_left,
  top_right,
  bottom_left,
  bottom_right,
  top_side,
  bottom_side,
  left_side,
  right_side,
  IsVertex,
  IsEdge,
}
use Rattle.board.specs.Tests.{corner_at, side_across, side_down, side_case}
use Rattle.board.specs.declared.Vertex.{Vertex}

-- ── vertices ──
-- DEFINITION: v lies on the top or the bottom line of row i, at one of its columns
pub record InRow (b : Board) (i : ℕ) (v : Vertex) : Type 0 where
  pub row : i < height b
  pub low : i ≤ v.line
  pub high : v.line ≤ suc i
  pub from : left b i ≤ v.column
  pub to : v.column ≤ right b i

corner_near : {i j : ℕ} {v : Vertex} → Corner i j v → (i ≤ v.line) × (v.line ≤ suc i) × (j ≤ v.column) × (v.column ≤ suc j)
corner_near top_left = (omega arith, omega arith, omega arith, omega arith)
corner_near top_right = (omega arith, omega arith, omega arith, omega arith)
corner_near bottom_left = (omega arith, omega arith, omega arith, omega arith)
corner_near bottom_right = (omega arith, omega arith, omega arith, omega arith)

pub vertex_in_row : (b : Board) (v : Vertex) → IsVertex b v → (i : ℕ) × InRow b i v
vertex_in_row b v (i, j, c, k) = let n = corner_near k in (
  i,
  record {
    row = c.row;
    low = n.0;
    high = n.1;
    from = omega (arith, c.from, n.2);
    to = omega (arith, c.to, n.3);
  },
)

-- lines and columns of vertices are below 32
pub vertex_placed : (b : Board) → Within b → (v : Vertex) → IsVertex b v → (v.line < 32) × (v.column < 32)
vertex_placed b W v p =
    let k = vertex_in_row b v p in let m = k.1 in let f = W.fits k.0 m.row in
    (omega (arith, W.few, m.row, m.high), omega (arith, m.to))

-- ── columns of a row ──
-- DEFINITION: column c is one of row i's
pub record HasColumn (b : Board) (i c : ℕ) : Type 0 where
  pub row : i < height b
  pub from : left b i ≤ c
  pub to : c ≤ right b i

-- it is the left or the right side of one of the row's cells
beside_cell : (b : Board) (i c : ℕ) → left b i < right b i → HasColumn b i c → (j : ℕ) × Cell b i j × ((c ≡ j) ⊎ (c ≡ suc j))
beside_cell b i c n h = elim (le_or_lt (right b i) c) [
  | inl k ↦ (c - 1, record { row = h.row; from = omega arith; to = omega arith }, inr (omega arith))
  | inr k ↦ (c, record { row = h.row; from = h.from; to = k }, inl refl)
]

pub vertex_on_top : (b : Board) (i c : ℕ) → left b i < right b i → HasColumn b i c → IsVertex b (at i c)
vertex_on_top b i c n h = let k = beside_cell b i c n h in (i, k.0, k.1, corner_at i k.0 i c (inl refl) k.2)

pub vertex_at_bottom : (b : Board) (i c : ℕ) → left b i < right b i → HasColumn b i c → IsVertex b (at (suc i) c)
vertex_at_bottom b i c n h = let k = beside_cell b i c n h in (i, k.0, k.1, corner_at i k.0 (suc i) c (inr refl) k.2)

-- ── edges ──
-- the ends of an edge are vertices
pub edge_ends : (b : Board) (e : Edge) → IsEdge b e → IsVertex b e.from × IsVertex b e.to
edge_ends b e (i, j, c, top_side) = ((i, j, c, top_left), (i, j, c, top_right))
edge_ends b e (i, j, c, bottom_side) = ((i, j, c, bottom_left), (i, j, c, bottom_right))
edge_ends b e (i, j, c, left_side) = ((i, j, c, top_left), (i, j, c, bottom_left))
edge_ends b e (i, j, c, right_side) = ((i, j, c, top_right), (i, j, c, bottom_right))

-- a vertical edge is a column of its row
pub down_column : (b : Board) (i c : ℕ) → IsEdge b (edge (at i c) (at (suc i) c)) → HasColumn b i c
down_column b i c (k, j, h, s) = elim (side_case s) [
  | inl a ↦ absurd (omega (arith, a.level))
  | inr d ↦
      let f : i ≡ k = d.start in
      rw f (elim d.touch [
        | inl t ↦ record { row = h.row; from = omega (arith, h.from); to = omega (arith, h.to) }
        | inr t ↦ record { row = h.row; from = omega (arith, h.from); to = omega (arith, h.to) }
      ])
]

pub column_down : (b : Board) (i c m : ℕ) → left b i < right b i → HasColumn b i c → m ≡ suc i → IsEdge b (edge (at i c) (at m c))
column_down b i c m n w h = let k = beside_cell b i c n w in (i, k.0, k.1, side_down i k.0 i m c refl h k.2)

-- a horizontal edge on line l, the top or the bottom of row i, is a side of a cell
pub cell_across : (b : Board) (i l c m : ℕ) → Cell b i c → i ≤ l → l ≤ suc i → m ≡ suc c → IsEdge b (edge (at l c) (at l m))
cell_across b i l c m k p q h = elim (le_or_lt l i) [
  | inl r ↦ (i, c, k, side_across i c l c m refl h (inl (omega arith)))
  | inr r ↦ (i, c, k, side_across i c l c m refl h (inr (omega arith)))
]
