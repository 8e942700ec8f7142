use Rattle.session.specs.View.{Sized}
use Rattle.session.proofs.Turns.{Turn}
use Rattle.session.proofs.Session.add_all.Given as goal

abbrev pub invariant-loop-net : goal.invariant-loop-net
invariant-loop-net l = Turn l.fn.self l.nets l.net-index (record { answer = l.answer; session = l.session }) × Sized l.fn.self
