use lib.ListN.{length}
use Rattle.judge_alike.specs.Slotwise.{Testing}
use Rattle.judge_alike.proofs.is_alike.Given as goal

abbrev pub invariant-loop-one : goal.invariant-loop-one
invariant-loop-one l = Testing l.first l.second (length l.yielded) l.same
