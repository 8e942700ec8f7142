-- Definitions only: words in bytes (document 01: "In a file a word is four bytes, lowest first"). Nothing is proved here.
use Rattle.std.specs.Prelude.{Bool, not, List, [], ◌∷◌, ◌++◌, ℕ, ◌+◌, ◌*◌, ◌/◌, ◌%◌, ◌^◌, eqb, length}

-- four bytes make a word; fewer at the end make none
unfoldable pub words_in : List ℕ → List ℕ
words_in [] = []
words_in (a ∷ []) = []
words_in (a ∷ (b ∷ [])) = []
words_in (a ∷ (b ∷ (c ∷ []))) = []
words_in (a ∷ (b ∷ (c ∷ (d ∷ rest)))) = (a + b * 2 ^ 8 + c * 2 ^ 16 + d * 2 ^ 24) ∷ words_in rest

-- refusal 10: "count not a multiple of 4"
abbrev pub uneven : List ℕ → Bool
uneven bs = not (eqb (length bs % 4) 0)

-- and back
abbrev pub bytes_of_word : ℕ → List ℕ
bytes_of_word w = w % 2 ^ 8 ∷ (w / 2 ^ 8 % 2 ^ 8) ∷ (w / 2 ^ 16 % 2 ^ 8) ∷ (w / 2 ^ 24 % 2 ^ 8) ∷ []

unfoldable pub bytes_of : List ℕ → List ℕ
bytes_of [] = []
bytes_of (w ∷ ws) = bytes_of_word w ++ bytes_of ws
