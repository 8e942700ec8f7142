-- Definitions only: what judging and comparing print. Nothing is proved here.
-- Passed: "passed" with edges, turns and knock-knees. Compared: "alike" or "not alike". Refused: the number and the place numbers.
use Rattle.std.specs.Prelude.{Bool, true, false, List, [], ◌∷◌, ℕ}
use Rattle.text.specs.Line.{line_of, passed_name, refused_line}
use Rattle.call_rules.specs.Result.{Result, no, yes}
use Rattle.call_rules.specs.Report.{Report}

abbrev pub judged_line : Result Report → List ℕ
judged_line (yes r) = line_of passed_name (r.edges ∷ r.turns ∷ r.knock_knees ∷ [])
judged_line (no r) = refused_line r.number r.place

-- "alike", and "not alike"
abbrev pub alike_name : Bool → List ℕ
alike_name true = 97 ∷ 108 ∷ 105 ∷ 107 ∷ 101 ∷ []
alike_name false = 110 ∷ 111 ∷ 116 ∷ 32 ∷ 97 ∷ 108 ∷ 105 ∷ 107 ∷ 101 ∷ []

abbrev pub compared_line : Result Bool → List ℕ
compared_line (yes t) = line_of (alike_name t) []
compared_line (no r) = refused_line r.number r.place
