-- Definitions only: the pins of a board, all together, and its width. Nothing is proved here: Law has the law.
use Rattle.std.specs.Prelude.{ℕ, zero, suc, max, ltb}
use Rattle.count.specs.Truth.{one}
use Rattle.count.specs.Sum.{sum}
use Rattle.board.specs.Board.{Board, height, at}
use Rattle.board.specs.Degree.{pins}
use Rattle.board.specs.declared.Vertex.{Vertex}
use Rattle.board_convex.specs.Form.{width}

-- the sum of f over lines and columns 0 to 31: every vertex of a board within the limits is there
unfoldable pub frame_sum : (Vertex → ℕ) → ℕ
frame_sum f = sum 32 (λ l. sum 32 (λ c. f (at l c)))

-- "A vertex of degree d has 4 - d pins": those of all vertices
unfoldable pub all_pins : Board → ℕ
all_pins b = frame_sum (pins b)

-- how many vertices have a pin
unfoldable pub pinned_vertices : Board → ℕ
pinned_vertices b = frame_sum (λ v. one (ltb 0 (pins b v)))

-- the width of the widest of the first n rows, and of all
unfoldable pub widest : Board → ℕ → ℕ
widest b zero = 0
widest b (suc n) = max (widest b n) (width b n)

unfoldable pub board_width : Board → ℕ
board_width b = widest b (height b)
