use Rattle.board.specs.Degree.{above_right}
use Rattle.board.proofs.above_right.Goals as goal

pub returns : goal.returns
unfolding above_right
returns c = cc
