-- Definitions only: the tests of the limits and of convexity that the code computes. Nothing is proved here:
-- `in-limits` (Limits) and `is-convex` (Exact) say that they are exact.
use Rattle.std.specs.Prelude.{Bool, true, ◌&&◌, cond, List, ℕ, zero, suc, ◌+◌, ◌-◌, get_or, leb, ltb}
use Rattle.board.specs.Board.{Board, height, no_row}
use Rattle.board.specs.declared.Row.{Row}

abbrev pub row : List Row → ℕ → Row
row rows i = get_or rows i no_row

-- each of the first n rows has a cell and ends by column 31
unfoldable pub rows_fit : List Row → ℕ → Bool
rows_fit rows zero = true
rows_fit rows (suc i) = rows_fit rows i && (ltb (row rows i).left (row rows i).right && leb (row rows i).right 31)

unfoldable pub in_limits : Board → Bool
in_limits b = (leb 1 (height b) && leb (height b) 31) && rows_fit b.rows (height b)

-- row r contains row s
unfoldable pub contains? : Row → Row → Bool
contains? r s = leb r.left s.left && leb s.right r.right

-- Rows lo to lo + n are taken one by one: the top one, if the bottom one contains it, else the bottom one.
-- Each row so taken contains the one taken before it, and the first one contains `inner`.
unfoldable pub peels : List Row → Row → ℕ → ℕ → Bool
peels rows inner lo zero = contains? (row rows lo) inner
peels rows inner lo (suc n) = cond (contains? (row rows (lo + suc n)) (row rows lo))
    (contains? (row rows lo) inner && peels rows (row rows lo) (suc lo) n)
    (contains? (row rows (lo + suc n)) inner && peels rows (row rows (lo + suc n)) lo n)

-- what every row that fits contains: before the first row is taken
abbrev pub innermost : Row
innermost = record { left = 31; right = 0 }

unfoldable pub is_convex : Board → Bool
is_convex b = in_limits b && peels b.rows innermost 0 (height b - 1)
