-- `contains` computes the test of its name.
use Rattle.board_convex.specs.Test.{contains?}
use Rattle.board_convex.proofs.contains.Goals as goal

pub returns : goal.returns
unfolding contains?
returns c = cc
