use Rattle.board.specs.View.{board_of}
use Rattle.judge_walk.specs.WalkLaws.{Paths}
use Rattle.judge_walk.proofs.walk_paths.Given as goal

abbrev pub invariant-loop-i : goal.invariant-loop-i
invariant-loop-i l = Paths (board_of l.b) l.fn.nets l.words l.initial.used l.i l.at l.used
