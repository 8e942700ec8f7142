-- Definitions only: the board that a value of the code's struct stands for. Nothing is proved here: ViewLaws has the laws.
-- The first `count` places of the array are its rows. Past the array's end stand rows of no cell, so that a count above 31 is a board of
-- that many rows, outside the limits.
use Rattle.std.specs.Prelude.{map, get_or}
use Rattle.count.specs.Lists.{up_to}
use Rattle.board.specs.Board.{Board, no_row}
use Rattle.board.specs.declared.Board as code

unfoldable pub board_of : code.Board → Board
board_of b = record { rows = map (λ i. get_or b.rows i no_row) (up_to b.count) }
