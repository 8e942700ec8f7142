-- Definitions only: a word in hexadecimal (document 01: "Words alone are in hexadecimal, eight digits each"). Nothing is proved here.
use Rattle.std.specs.Prelude.{cond, ℕ, ◌+◌, ◌/◌, ◌%◌, ◌^◌, ltb}
use mathlib.Core.List.{List, [], ◌∷◌, flat_map}

-- "0" to "9", "A" to "F", as bytes
abbrev pub glyph : ℕ → ℕ
glyph d = cond (ltb d 10) (48 + d) (55 + d)

-- the digit of a word that stands for so many units
abbrev pub digit_at : (w unit : ℕ) → ℕ
digit_at w unit = glyph (w / unit % 16)

-- eight digits, the highest first, and a line's end
abbrev pub hex_line : ℕ → List ℕ
hex_line w =
    digit_at w (16 ^ 7) ∷ digit_at w (16 ^ 6) ∷ digit_at w (16 ^ 5) ∷ digit_at w (16 ^ 4)
    ∷ digit_at w (16 ^ 3) ∷ digit_at w (16 ^ 2) ∷ digit_at w 16 ∷ digit_at w 1 ∷ 10 ∷ []

-- each word on a line
abbrev pub hex_lines : List ℕ → List ℕ
hex_lines ws = flat_map hex_line ws
