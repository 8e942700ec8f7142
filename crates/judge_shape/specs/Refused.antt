-- Definitions only: the refusal of document 01 that a value of the code stands for. Nothing is proved here.
use Rattle.std.specs.Prelude.{ℕ, Result, Ok, Err}
use Rattle.std.proofs.Math.Option.{Option, none, some}
use Rattle.session_rules.specs.Refusal as machine
use Rattle.session_rules.specs.Refusal.{refusal}
use Rattle.judge_shape.specs.declared.Fault.{Fault}
use Rattle.judge_shape.specs.declared.Fault.TheVariants.{Length, Word, Order, OffBoard, EdgeUsed, NotThere}
use Rattle.judge_shape.specs.declared.Refusal.{Refusal}

-- the number of what is wrong, in the table of refusals
abbrev pub number_of : Fault → ℕ
number_of Length = 41
number_of Word = 42
number_of Order = 43
number_of OffBoard = 44
number_of EdgeUsed = 45
number_of NotThere = 46

abbrev pub refusal_of : Refusal → machine.Refusal
refusal_of r = refusal (number_of r.fault) r.place

-- what a check answers
abbrev pub refused_of : Result Unit Refusal → Option machine.Refusal
refused_of (Ok u) = none
refused_of (Err r) = some (refusal_of r)
