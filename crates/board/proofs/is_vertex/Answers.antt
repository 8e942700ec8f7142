use Rattle.count.specs.TruthLaws.{decides}
use Rattle.board.specs.Degree.{vertex?}
use Rattle.board.specs.View.{board_of}
use Rattle.board.specs.Tests.{vertex_exact}
use Rattle.board.proofs.is_vertex.Goals as goal

pub returns : goal.returns
unfolding vertex?
returns c = decides _ (vertex? (board_of c.args.b) c.args.v)
    (vertex_exact (board_of c.args.b) c.args.v) (cc)
