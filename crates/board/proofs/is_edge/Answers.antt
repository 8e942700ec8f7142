use Rattle.count.specs.TruthLaws.{decides}
use Rattle.board.specs.Degree.{edge?}
use Rattle.board.specs.View.{board_of}
use Rattle.board.specs.Tests.{edge_exact}
use Rattle.board.proofs.is_edge.Goals as goal

pub returns-in-Up : goal.returns-in-Up
unfolding edge?
returns-in-Up c = decides _ (edge? (board_of c.args.b) c.args.d
    c.args.v) (edge_exact (board_of c.args.b)
    c.args.d c.args.v) (cc)

pub returns-in-Right : goal.returns-in-Right
unfolding edge?
returns-in-Right c = decides _ (edge? (board_of c.args.b) c.args.d
    c.args.v) (edge_exact (board_of c.args.b)
    c.args.d c.args.v) (cc)

pub returns-in-Down : goal.returns-in-Down
unfolding edge?
returns-in-Down c = decides _ (edge? (board_of c.args.b) c.args.d
    c.args.v) (edge_exact (board_of c.args.b)
    c.args.d c.args.v) (cc)

pub returns-in-Left : goal.returns-in-Left
unfolding edge?
returns-in-Left c = decides _ (edge? (board_of c.args.b) c.args.d
    c.args.v) (edge_exact (board_of c.args.b)
    c.args.d c.args.v) (cc)
