use Rattle.board.specs.Degree.{below_left}
use Rattle.board.proofs.below_left.Goals as goal

pub returns : goal.returns
unfolding below_left
returns c = cc
