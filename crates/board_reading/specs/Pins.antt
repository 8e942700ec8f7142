-- Definitions only: the taken pins of a list of words, in a pass over it that puts them into an array, at the level of the code's values. Nothing is
-- proved here: PinsLaws has the laws.
use Rattle.std.specs.Prelude as prelude
use Rattle.std.specs.Prelude.{◌≡◌, Bool, true, false, cond, List, [], ◌∷◌, ◌⊎◌, ℕ, suc}
use Rattle.std.proofs.Math.Option.{none, some}
use Rattle.board.specs.Board.{Board}
use Rattle.board_block.specs.Taken.{over_taken}
use Rattle.board_block.specs.View.{none_taken, with_all}
use Rattle.board_block.specs.declared.Book.{Book}
use Rattle.board_block.specs.declared.TakenPins.{TakenPins}
use Rattle.session_rules.specs.Refusal.{Line, line, first_refusal}
use Rattle.words.specs.BoardWord.{board_word}
use Rattle.words.specs.declared.BoardWord.{BoardWord}
use Rattle.words.specs.declared.BoardWord.TheVariants as word
use Rattle.board_reading.specs.Refused.{read_refusal}
use Rattle.board_reading.specs.declared.ReadRefusal.{ReadRefusal}

-- the taken pins of a word, before the others
abbrev pub pins_then : BoardWord → List TakenPins → List TakenPins
pins_then (word.Row r) ps = ps
pins_then (word.Taken p) ps = p ∷ ps
pins_then (word.Net n) ps = ps
pins_then (word.End c) ps = ps
pins_then word.Unknown ps = ps

-- those of all words
unfoldable pub pins_in : List ℕ → List TakenPins
pins_in [] = []
pins_in (w ∷ ws) = pins_then (board_word w) (pins_in ws)

-- 38 for the taken pins of the word at index i, before the other lines
abbrev pub line_then : Book → Board → ℕ → BoardWord → List Line → List Line
line_then k b i (word.Row r) ls = ls
line_then k b i (word.Taken p) ls = line (over_taken k b p) 38 i ∷ ls
line_then k b i (word.Net n) ls = ls
line_then k b i (word.End c) ls = ls
line_then k b i word.Unknown ls = ls

-- for those of the words from index i on
unfoldable pub lines_in : Book → Board → ℕ → List ℕ → List Line
lines_in k b i [] = []
lines_in k b i (w ∷ ws) = line_then k b i (board_word w) (lines_in k b (suc i) ws)

-- what the pass promises: 38 at the first word of which it is due, or the array with the taken pins of all words
abbrev pub PinsPromise : Book → Board → List ℕ → prelude.Result (List ℕ) ReadRefusal → Type 0
PinsPromise k b ws (prelude.Err e) = first_refusal (lines_in k b 0 ws) ≡ some (read_refusal e)
PinsPromise k b ws (prelude.Ok a) = (first_refusal (lines_in k b 0 ws) ≡ none) × (a ≡ with_all none_taken (pins_in ws))
