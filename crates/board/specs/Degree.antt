-- Definitions only: document 01, "The board", third paragraph. Nothing is proved here.
-- `vertex?` and `edge?` are the tests of IsVertex and IsEdge: see `vertex_exact` and `edge_exact` in Tests.
use Rattle.std.specs.Prelude.{Bool, ◌&&◌, ◌||◌, cond, ℕ, ◌+◌, ◌-◌, leb, ltb}
use Rattle.count.specs.Truth.{one}
use Rattle.board.specs.Board.{Board, height, left, right}
use Rattle.board.specs.declared.Vertex.{Vertex}
use Rattle.board.specs.declared.Direction.{Direction}
use Rattle.board.specs.declared.Direction.TheVariants.{Up, Right, Down, Left}

abbrev pub cell? : Board → ℕ → ℕ → Bool
cell? b i j = ltb i (height b) && (leb (left b i) j && ltb j (right b i))

-- The four cells that meet at a vertex. There is none above line 0 or left of column 0.
unfoldable pub below_right : Board → Vertex → Bool
below_right b v = cell? b v.line v.column

unfoldable pub below_left : Board → Vertex → Bool
below_left b v = ltb 0 v.column && cell? b v.line (v.column - 1)

unfoldable pub above_right : Board → Vertex → Bool
above_right b v = ltb 0 v.line && cell? b (v.line - 1) v.column

unfoldable pub above_left : Board → Vertex → Bool
above_left b v = (ltb 0 v.line && ltb 0 v.column) && cell? b (v.line - 1) (v.column - 1)

-- v is a corner of a cell
unfoldable pub vertex? : Board → Vertex → Bool
vertex? b v = (above_left b v || above_right b v) || (below_left b v || below_right b v)

-- a side of a cell leaves v in the direction
unfoldable pub edge? : Board → Direction → Vertex → Bool
edge? b Up v = above_left b v || above_right b v
edge? b Right v = above_right b v || below_right b v
edge? b Down v = below_left b v || below_right b v
edge? b Left v = above_left b v || below_left b v

-- "The degree of a vertex is its count of edges". (By the cells that meet there it is the same: crate board_degree, `degree_by_kind`.)
unfoldable pub degree : Board → Vertex → ℕ
degree b v = (one (edge? b Up v) + one (edge? b Right v)) + (one (edge? b Down v) + one (edge? b Left v))

-- "A vertex of degree d has 4 - d pins." What is no vertex has none.
unfoldable pub pins : Board → Vertex → ℕ
pins b v = cond (vertex? b v) (4 - degree b v) 0
