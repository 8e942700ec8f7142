-- Definitions only: how many cells meet at a vertex, and concave corners. Nothing is proved here: Corners has the laws.
use Rattle.std.specs.Prelude.{◌≡◌, ℕ, ◌+◌}
use Rattle.count.specs.Truth.{one}
use Rattle.board.specs.Board.{Board}
use Rattle.board.specs.Degree.{below_right, below_left, above_right, above_left}
use Rattle.board.specs.declared.Vertex.{Vertex}

-- of the four cells that meet at v, as many are the board's
unfoldable pub cells_at : Board → Vertex → ℕ
cells_at b v = (one (above_left b v) + one (above_right b v)) + (one (below_left b v) + one (below_right b v))

-- "A concave corner": just one of the four is missing
abbrev pub Concave : Board → Vertex → Type 0
Concave b v = cells_at b v ≡ 3
