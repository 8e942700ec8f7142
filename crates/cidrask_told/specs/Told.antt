-- Definitions only: the numbers by which a C program is told a result. Nothing is proved here.
use Rattle.std.specs.Prelude.{Bool, List, [], ◌∷◌, ℕ}
use Rattle.count.specs.Truth.{one}
use Rattle.session_rules.specs.Refusal.{Refusal}
use Rattle.call_rules.specs.Result.{Result, no, yes}
use Rattle.call_rules.specs.Report.{Report}
use Rattle.call_rules.specs.Wire.{Figures}
use Rattle.cidrask_told.specs.declared.Told.{Told}

abbrev pub tell : (number first second third : ℕ) → Told
tell number first second third = record { number = number; first = first; second = second; third = third }

-- a refusal: its number, then the place, filled up with 0
abbrev pub first_of : List ℕ → ℕ
first_of [] = 0
first_of (p ∷ ps) = p

abbrev pub second_of : List ℕ → ℕ
second_of [] = 0
second_of (p ∷ ps) = first_of ps

abbrev pub refused_told : Refusal → Told
refused_told r = tell r.number (first_of r.place) (second_of r.place) 0

-- a call that writes: 0 and the count of what is written, words or bytes
abbrev pub count_told : Result ℕ → Told
count_told (yes n) = tell 0 n 0 0
count_told (no r) = refused_told r

-- the wire: 0 and the two figures
abbrev pub wire_told : Result Figures → Told
wire_told (yes f) = tell 0 f.crossings f.edges 0
wire_told (no r) = refused_told r

-- judging: 0 and the report
abbrev pub judge_told : Result Report → Told
judge_told (yes r) = tell 0 r.edges r.turns r.knock_knees
judge_told (no r) = refused_told r

-- comparing: 0, and 1 for alike
abbrev pub alike_told : Result Bool → Told
alike_told (yes t) = tell 0 (one t) 0 0
alike_told (no r) = refused_told r
