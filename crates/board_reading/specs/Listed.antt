-- Definitions only: the net words of a list, with their indices. Nothing is proved here: ListedLaws has the laws.
use Rattle.std.specs.Prelude.{List, [], ◌∷◌, ℕ, suc}
use Rattle.words.specs.BoardWord.{board_word}
use Rattle.words.specs.declared.BoardWord.{BoardWord}
use Rattle.words.specs.declared.BoardWord.TheVariants as word
use Rattle.call_rules.specs.Reading.{Listed}

-- a net word's net at index i, before the others
abbrev pub list_then : ℕ → BoardWord → List Listed → List Listed
list_then i (word.Row r) ls = ls
list_then i (word.Taken p) ls = ls
list_then i (word.Net n) ls = record { index = i; net = n } ∷ ls
list_then i (word.End c) ls = ls
list_then i word.Unknown ls = ls

-- the net words from index i on
unfoldable pub listed : ℕ → List ℕ → List Listed
listed i [] = []
listed i (w ∷ ws) = list_then i (board_word w) (listed (suc i) ws)
