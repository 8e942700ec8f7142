-- Definitions only: document 01, "Cuts", last sentence, and refusal 32. Nothing is proved here.
use Rattle.std.specs.Prelude.{Bool, ◌&&◌, List, ◌+◌, ◌%◌, eqb}
use Rattle.count.specs.Lists.{select}
use Rattle.board.specs.Board.{Board}
use Rattle.board.specs.Degree.{vertex?, degree}
use Rattle.board.specs.Order.{reading_order}
use Rattle.board.specs.declared.Vertex.{Vertex}
use Rattle.net.specs.declared.Pair.{Pair}
use Rattle.net.specs.Terminals.{terminals}

-- "A vertex is odd when its degree plus its terminals is odd."
unfoldable pub odd? : Board → List Pair → Vertex → Bool
odd? b ps v = vertex? b v && eqb ((degree b v + terminals ps v) % 2) 1

-- in reading order
unfoldable pub odd_vertices : Board → List Pair → List Vertex
odd_vertices b ps = select (odd? b ps) reading_order
