-- Definitions only: how many lines, and how many columns of a line, a search looks at. Nothing is proved here: Past shows that no vertex and no
-- edge lies further on.
use Rattle.std.specs.Prelude.{ℕ, ◌+◌, min}
use Rattle.board.specs.Board.{Board, height}
use Rattle.board_convex.specs.LineEnds.{line_right}
use Rattle.cut.specs.declared.Cut.{Cut}
use Rattle.cut.specs.declared.Cut.TheVariants.{Row, Column}

-- as many as number 0 to n; lines and columns are 0 to 31
abbrev pub places : ℕ → ℕ
places n = min (n + 1) 32

-- the board's lines; of a line the columns up to the greatest of the rows that touch it
abbrev pub lines_of : Board → ℕ
lines_of b = places (height b)

abbrev pub columns_of : Board → ℕ → ℕ
columns_of b l = places (line_right b l)

-- the columns of a row's upper line; the lines that a column passes
abbrev pub extent : Board → Cut → ℕ
extent b (Row i) = columns_of b i
extent b (Column j) = lines_of b
