use Rattle.board.specs.Degree.{below_right}
use Rattle.board.proofs.below_right.Goals as goal

pub returns : goal.returns
unfolding below_right
returns c = cc
