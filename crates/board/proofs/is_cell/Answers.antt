use Rattle.board.specs.ViewLaws.{cell_of}
use Rattle.board.proofs.is_cell.Goals as goal

pub returns : goal.returns
returns c = rw (cell_of c.args.b) (cc)
