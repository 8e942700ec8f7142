-- Definitions only: document 02, §2, the degree of a vertex by named cases. Nothing is proved here: KindLaws and Convex have the laws.
use Rattle.std.specs.Prelude.{◌≡◌, Bool, true, false, ◌&&◌, ◌||◌, ℕ, zero, suc}
use Rattle.board.specs.Board.{Board}
use Rattle.board.specs.Degree.{below_right, below_left, above_right, above_left, degree}
use Rattle.board.specs.declared.Vertex.{Vertex}
use Rattle.board_convex.specs.Cells.{cells_at}
use Rattle.board_degree.specs.declared.VertexKind.{VertexKind}
use Rattle.board_degree.specs.declared.VertexKind.TheVariants.{OuterCorner, StraightSide, ConcaveCorner, Inside, TouchingCorners, NoVertex}

-- A cell of the board above v and one below it, on different sides. Where they are the only two, they touch at v and nowhere else.
unfoldable pub opposite? : Board → Vertex → Bool
opposite? b v = (above_left b v && below_right b v) || (above_right b v && below_left b v)

-- "named cases: outer corner, straight side, concave corner, inside, where one, two, three or four cells of the board meet."
-- No convex board has two cells that touch at a corner only, and what is no vertex has no cell; any board may be asked, so both have a case.
abbrev pub kind_by : (cells : ℕ) (opposite : Bool) → VertexKind
kind_by zero o = NoVertex
kind_by (suc zero) o = OuterCorner
kind_by (suc (suc zero)) false = StraightSide
kind_by (suc (suc zero)) true = TouchingCorners
kind_by (suc (suc (suc zero))) o = ConcaveCorner
kind_by (suc (suc (suc (suc n)))) o = Inside

unfoldable pub kind_of : Board → Vertex → VertexKind
kind_of b v = kind_by (cells_at b v) (opposite? b v)

-- "one, two, three or four cells": how many meet at a vertex of this kind
abbrev pub cells_of_kind : VertexKind → ℕ
cells_of_kind OuterCorner = 1
cells_of_kind StraightSide = 2
cells_of_kind ConcaveCorner = 3
cells_of_kind Inside = 4
cells_of_kind TouchingCorners = 2
cells_of_kind NoVertex = 0

-- "with degree 2, 3, 4 or 4 in that order". Where two cells only touch there are the four edges of both, and where there is no cell there are none.
-- The degree of v, worked out by its case, is `degree_of_kind (kind_of b v)`. Law `degree_by_kind`: that is its count of edges, on any board.
abbrev pub degree_of_kind : VertexKind → ℕ
degree_of_kind OuterCorner = 2
degree_of_kind StraightSide = 3
degree_of_kind ConcaveCorner = 4
degree_of_kind Inside = 4
degree_of_kind TouchingCorners = 4
degree_of_kind NoVertex = 0

-- The four named cases, each with how many cells meet at the vertex and how many edges it has.
pub data Named : VertexKind → (cells edges : ℕ) → Type 0 where
  outer_corner : Named OuterCorner 1 2
  straight_side : Named StraightSide 2 3
  concave_corner : Named ConcaveCorner 3 4
  inside : Named Inside 4 4

-- "each vertex of a convex board falls under exactly one": the kind of v is a named one, by its cells and its edges, and no other has as many cells
pub record FallsUnderOne (b : Board) (v : Vertex) : Type 0 where
  pub named : Named (kind_of b v) (cells_at b v) (degree b v)
  pub only : {k : VertexKind} {edges : ℕ} → Named k (cells_at b v) edges → (k ≡ kind_of b v) × (edges ≡ degree b v)
