-- Definitions only: a number in decimal digits, and a line of a name and numbers (document 01: "prints each routing word on a line, or
-- "refused", the number and the place numbers, parted by spaces"). Nothing is proved here.
use Rattle.std.specs.Prelude.{cond, ℕ, zero, suc, ◌+◌, ◌/◌, ◌%◌, ltb}
use mathlib.Core.List.{List, [], ◌∷◌, ◌++◌, flat_map}

-- the last digits of a number, at most so many, as bytes "0" to "9"; none stands before the first that counts
unfoldable pub digits_of : (most n : ℕ) → List ℕ
digits_of zero n = []
digits_of (suc most) n = cond (ltb n 10) ((48 + n) ∷ []) (digits_of most (n / 10) ++ ((48 + n % 10) ∷ []))

-- all of its digits: no number n has more than n + 1
unfoldable pub decimal : ℕ → List ℕ
decimal n = digits_of (suc n) n

-- a number with a space before it
abbrev pub spaced : ℕ → List ℕ
spaced n = 32 ∷ decimal n

-- a name, numbers parted by spaces, and a line feed
unfoldable pub line_of : (name numbers : List ℕ) → List ℕ
line_of name numbers = name ++ (flat_map spaced numbers ++ (10 ∷ []))

-- the names of the lines that an answer has: "accepted", "refused", "passed"
abbrev pub accepted_name : List ℕ
accepted_name = 97 ∷ 99 ∷ 99 ∷ 101 ∷ 112 ∷ 116 ∷ 101 ∷ 100 ∷ []

abbrev pub refused_name : List ℕ
refused_name = 114 ∷ 101 ∷ 102 ∷ 117 ∷ 115 ∷ 101 ∷ 100 ∷ []

abbrev pub passed_name : List ℕ
passed_name = 112 ∷ 97 ∷ 115 ∷ 115 ∷ 101 ∷ 100 ∷ []

-- ""refused", the number and the place numbers"
abbrev pub refused_line : ℕ → List ℕ → List ℕ
refused_line number place = line_of refused_name (number ∷ place)

-- a space and "after"
abbrev pub after_name : List ℕ
after_name = 32 ∷ 97 ∷ 102 ∷ 116 ∷ 101 ∷ 114 ∷ []

-- the refusal at which a list stopped: the same, then "after" and how many went on before it
abbrev pub refused_after_line : ℕ → List ℕ → ℕ → List ℕ
refused_after_line number place count = refused_name ++ (flat_map spaced (number ∷ place) ++ line_of after_name (count ∷ []))
