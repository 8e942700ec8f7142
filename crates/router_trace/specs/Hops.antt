-- Definitions only: where a move that the notes give leads, and from where. 0 up, 1 right, 2 down, 3 left; 4 none. Nothing is proved here.
use Rattle.std.specs.Prelude.{◌≡◌, cond, Option, None, Some, ℕ, ◌+◌, ◌-◌, ◌%◌, ◌<◌, eqb}

-- the line and the column after a move of an end: it is never to the left
unfoldable pub line_d : (d l : ℕ) → ℕ
line_d d l = cond (eqb d 2) (l + 1) (cond (eqb d 0) (l - 1) l)

unfoldable pub column_d : (d c : ℕ) → ℕ
column_d d c = cond (eqb d 1) (c + 1) c

-- the same move, passed the other way
unfoldable pub opp_d : ℕ → ℕ
opp_d d = (d + 2) % 4

-- a move by its number, or none
abbrev pub Hop : ℕ → Option ℕ → Type 0
Hop h None = h ≡ 4
Hop h (Some d) = (d ≡ h) × (d < 4)

-- a move leads from a vertex of the frame
abbrev pub InFrame : (l c : ℕ) → Option ℕ → Type 0
InFrame l c None = Unit {0}
InFrame l c (Some d) = (l < 32) × (c < 32)
