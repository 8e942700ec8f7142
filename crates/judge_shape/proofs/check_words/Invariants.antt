use Rattle.judge_shape.specs.Moves.{Stands}
use Rattle.judge_shape.proofs.check_words.Given as goal

abbrev pub invariant-loop-i : goal.invariant-loop-i
invariant-loop-i l = Stands l.all l.nets l.words l.due l.next l.i
