use Rattle.board.specs.Degree.{above_left}
use Rattle.board.proofs.above_left.Goals as goal

pub returns : goal.returns
unfolding above_left
returns c = cc
