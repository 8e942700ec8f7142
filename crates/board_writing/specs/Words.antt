-- Definitions only: the words that a loop over rows or nets has written after so many of them, and those that a loop over taken pins has still to
-- write. Nothing is proved here.
use Rattle.std.specs.Prelude.{List, [], ◌∷◌, map, ℕ, get_or, take, drop, None, Some}
use Rattle.count.specs.Lists.{up_to}
use Rattle.board.specs.Board.{no_row}
use Rattle.board.specs.declared.Row.{Row}
use Rattle.board_block.specs.View.{vertex_at, taken_then, taken_from}
use Rattle.net_places.specs.Places.{nets_of}
use Rattle.words.specs.BoardWord.{row_word, taken_word, net_word}
use Rattle.net.specs.View.{Held}

-- the words of the first n rows
unfoldable pub row_words : List Row → ℕ → List ℕ
row_words rs n = map (λ i. row_word (get_or rs i no_row)) (up_to n)

-- the words of so many pins taken at place i: none where none are
abbrev pub pin_word : (i count : ℕ) → List ℕ
pin_word i k = map taken_word (taken_then (vertex_at i) k [])

-- the words of the pins taken at place i and at those after it
unfoldable pub pin_words_from : List ℕ → (i : ℕ) → List ℕ
pin_words_from a i = map taken_word (taken_from i (drop i a))

-- the words of the nets of the first n places
unfoldable pub net_words : List Held → ℕ → List ℕ
net_words ps n = map net_word (nets_of (take n ps))

-- the words of what one place holds
abbrev pub held_word : ℕ → Held → List ℕ
held_word k None = []
held_word k (Some e) = net_word (record { number = k; ends = e }) ∷ []
