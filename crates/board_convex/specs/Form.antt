-- Definitions only: what document 01, "The board", second paragraph, says that convex means, in rows and widths. Nothing is proved here.
use Rattle.std.specs.Prelude.{◌⊎◌, ℕ, ◌-◌, ◌≤◌, ◌<◌}
use Rattle.board.specs.Board.{Board, height, left, right}

-- Row i contains row j.
abbrev pub Contains : Board → ℕ → ℕ → Type 0
Contains b i j = (left b i ≤ left b j) × (right b j ≤ right b i)

-- "of any two rows one contains the other"
abbrev pub Nested : Board → Type 0
Nested b = (i j : ℕ) → i < height b → j < height b → Contains b i j ⊎ Contains b j i

abbrev pub width : Board → ℕ → ℕ
width b i = right b i - left b i

-- "and widths never shrink and then grow again, from top to bottom": not from row i down to row j, and then from row k down to row l.
abbrev pub NeverRegrow : Board → Type 0
NeverRegrow b = (i j k l : ℕ) → i < j → j ≤ k → k < l → l < height b → width b j < width b i → width b k < width b l → ⊥
