-- Definitions only: how many edges a board has (document 02, §11). Nothing is proved here: Framed has the laws.
use Rattle.std.specs.Prelude.{List, ℕ, ◌+◌, length}
use Rattle.count.specs.Lists.{select}
use Rattle.board.specs.Board.{Board}
use Rattle.board.specs.Degree.{edge?}
use Rattle.board.specs.Order.{reading_order}
use Rattle.board.specs.declared.Vertex.{Vertex}
use Rattle.board.specs.declared.Direction.{Direction}
use Rattle.board.specs.declared.Direction.TheVariants.{Right, Down}

-- the vertices from which an edge leads in a direction, in reading order
unfoldable pub edges_going : Board → Direction → List Vertex
edges_going b d = select (edge? b d) reading_order

-- "the board's edge count": each edge leads right from its left end, or down from its upper end. Lines and columns are 0 to 31: within the limits
-- there are no others
unfoldable pub edge_count : Board → ℕ
edge_count b = length (edges_going b Right) + length (edges_going b Down)
