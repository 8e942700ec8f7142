-- Definitions only: what is printed of a list that is read, and of a session that is written. Nothing is proved here.
use Rattle.std.specs.Prelude.{List, [], ◌∷◌, ℕ}
use Rattle.text.specs.Line.{line_of, refused_line}
use Rattle.session_rules.specs.Session.{Session}
use Rattle.call_rules.specs.Result.{Result, no, yes}
use Rattle.call_rules.specs.Reading.{board_limit}
use Rattle.call_rules.specs.Writing.{write_board, count_of}

-- writing: a name with the count of words, or the refusal
abbrev pub written_line : (name : List ℕ) → Result ℕ → List ℕ
written_line name (yes count) = line_of name (count ∷ [])
written_line name (no r) = refused_line r.number r.place

-- "read"
abbrev pub read_name : List ℕ
read_name = 114 ∷ 101 ∷ 97 ∷ 100 ∷ []

-- reading: "read" with the count of words that are written back, or the refusal
abbrev pub read_line : Result Session → List ℕ
read_line (yes s) = written_line read_name (count_of (write_board s board_limit))
read_line (no r) = refused_line r.number r.place
