-- Definitions only: the figures, or the number and place, for each answer of the code. Nothing is proved here.
use Rattle.std.specs.Prelude as prelude
use Rattle.std.specs.Prelude.{Ok, Err}
use Rattle.session_rules.specs.Refusal.{refusal}
use Rattle.call_rules.specs.Result.{Result, no, yes}
use Rattle.call_rules.specs.Wire as rules
use Rattle.wire_call.specs.declared.Figures.{Figures}
use Rattle.wire_call.specs.declared.Unsound.{Unsound}

-- what the call answers
abbrev pub WireAnswer : Type 0
WireAnswer = prelude.Result Figures Unsound

abbrev pub figures_in : Figures → rules.Figures
figures_in f = record { crossings = f.crossings; edges = f.edges }

abbrev pub wire_answer : WireAnswer → Result rules.Figures
wire_answer (Ok f) = yes (figures_in f)
wire_answer (Err u) = no (refusal 20 0)
