-- Definitions only: the line of what the call `wire` answers: the two numbers, parted by a space, or "refused" with the number and the place.
-- Nothing is proved here.
use Rattle.std.specs.Prelude.{List, [], ◌∷◌, ℕ}
use Rattle.text.specs.Line.{decimal, line_of, refused_line}
use Rattle.call_rules.specs.Result.{Result, no, yes}
use Rattle.call_rules.specs.Wire.{Figures}

abbrev pub wire_line : Result Figures → List ℕ
wire_line (yes f) = line_of (decimal f.crossings) (f.edges ∷ [])
wire_line (no r) = refused_line r.number r.place
