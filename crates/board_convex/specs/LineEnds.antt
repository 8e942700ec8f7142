-- Definitions only: where a line of a board begins and ends. Nothing is proved here: `line-vertices` in Lines says that on a convex
-- board a line's vertices are the columns between.
use Rattle.std.specs.Prelude.{cond, ℕ, zero, suc, ◌≤◌, ◌<◌, min, max, ltb}
use Rattle.board.specs.Board.{Board, height, left, right}

-- Row i touches line l: the line is the row's top or its bottom.
pub record Touches (b : Board) (i l : ℕ) : Type 0 where
  pub row : i < height b
  pub low : i ≤ l
  pub high : l ≤ suc i

-- The least column of the rows that touch line l: on line 0 row 0, on line i + 1 row i and, if there is one, row i + 1.
unfoldable pub line_left : Board → ℕ → ℕ
line_left b zero = left b 0
line_left b (suc i) = cond (ltb (suc i) (height b)) (min (left b i) (left b (suc i))) (left b i)

-- The greatest column of the same rows.
unfoldable pub line_right : Board → ℕ → ℕ
line_right b zero = right b 0
line_right b (suc i) = cond (ltb (suc i) (height b)) (max (right b i) (right b (suc i))) (right b i)
