-- Definitions only: writing into a lent buffer, and a session's board and nets written as words (document 01, "Board words", refusal 18; document 02,
-- §7, for bytes, §8, for taken pins, §9, for the rule book). Nothing is proved here.
use Rattle.std.specs.Prelude.{◌≡◌, not, List, [], ◌∷◌, ◌++◌, map, ℕ, ltb, length, drop}
use Rattle.session_rules.specs.Refusal.{line, first_refusal}
use Rattle.session_rules.specs.Session.{Session}
use Rattle.session_rules.specs.Sound.{sound?}
use Rattle.words.specs.BoardWord.{row_word, taken_word, net_word, end_word}
use Rattle.call_rules.specs.Result.{Result, no, yes, unless}
use Rattle.call_rules.specs.Reading.{board_limit}

-- "Row words top to bottom, then net words in rising number, then one end word." Taken pins "are written too": their words "follow the rows, before
-- the nets" (02, §8); "Written words carry the board's rule" (§9), in the end word
unfoldable pub board_words : Session → List ℕ
board_words s =
    map row_word s.block.board.rows
    ++ (map taken_word s.block.taken
    ++ (map net_word s.nets
    ++ (end_word s.block.book (length s.block.board.rows) (length s.nets) ∷ [])))

-- the words written into a buffer: "words after the end word are untouched"; of bytes "Bytes after the page are untouched"
abbrev pub written_into : List ℕ → List ℕ → List ℕ
written_into buffer ws = ws ++ drop (length ws) buffer

-- the words that are written, for a buffer of so many words, or the refusal: 20, then 18
unfoldable pub write_board : Session → (room : ℕ) → Result (List ℕ)
write_board s room = unless (first_refusal (line (not (sound? s)) 20 0 ∷ line (ltb room board_limit) 18 0 ∷ [])) (yes (board_words s))

-- the count that is answered, "with the count of words written" or "of bytes written", and the buffer afterwards: on a refusal the same as before
abbrev pub count_of : Result (List ℕ) → Result ℕ
count_of (no r) = no r
count_of (yes ws) = yes (length ws)

abbrev pub buffer_after : List ℕ → Result (List ℕ) → List ℕ
buffer_after buffer (no r) = buffer
buffer_after buffer (yes ws) = written_into buffer ws

-- what a call that writes into a lent buffer promises, where x is what is written, or the refusal: the count, or the refusal, and the buffer
-- afterwards
pub record Writes (x : Result (List ℕ)) (before : List ℕ) (answer : Result ℕ) (after : List ℕ) : Type 0 where
  pub answers : answer ≡ count_of x
  pub buffer : after ≡ buffer_after before x
