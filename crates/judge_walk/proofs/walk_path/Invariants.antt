use Rattle.board.specs.View.{board_of}
use Rattle.judge_walk.specs.WalkLaws.{Runs}
use Rattle.judge_walk.proofs.walk_path.Given as goal

abbrev pub invariant-loop-k : goal.invariant-loop-k
invariant-loop-k l = Runs (board_of l.b) l.number l.ends l.index l.runs l.initial.used l.k l.v l.used
