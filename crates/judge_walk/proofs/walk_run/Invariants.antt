use Prim.Native.Nat.{◌-◌}
use Rattle.board.specs.View.{board_of}
use Rattle.judge_walk.specs.WalkLaws.{Along}
use Rattle.judge_walk.proofs.walk_run.Given as goal

abbrev pub invariant-loop : goal.invariant-loop
invariant-loop l = Along (board_of l.b) l.number l.d l.end l.initial.v l.initial.used (l.end - l.counter) l.v l.used
