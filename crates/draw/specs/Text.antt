-- Definitions only: what the program prints of its input. Nothing is proved here.
use Rattle.std.specs.Prelude.{cond, List, [], ◌∷◌, ℕ, ◌+◌, ◌/◌, eqb, take, drop}
use Rattle.text.specs.Line.{refused_line}
use Rattle.call_rules.specs.Result.{Result, no, yes}
use Rattle.call_rules.specs.Page.{page_room}
use Rattle.call_rules.specs.Editor.{editor_draw}

-- how many bytes the board has: up to its end word, the first word whose bits 31-28 are 15, which are the upper half of its fourth byte; all where no
-- word is an end word
unfoldable pub board_end : List ℕ → ℕ
board_end [] = 0
board_end (a ∷ []) = 1
board_end (a ∷ (b ∷ [])) = 2
board_end (a ∷ (b ∷ (c ∷ []))) = 3
board_end (a ∷ (b ∷ (c ∷ (d ∷ rest)))) = cond (eqb (d / 16) 15) 4 (4 + board_end rest)

-- the page, or the line of the refusal
abbrev pub page_text : Result (List ℕ) → List ℕ
page_text (no r) = refused_line r.number r.place
page_text (yes text) = text

-- the board's bytes, and then the list's
abbrev pub text_of : List ℕ → List ℕ
text_of bytes = page_text (editor_draw (take (board_end bytes) bytes) (drop (board_end bytes) bytes) page_room)
