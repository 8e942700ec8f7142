-- `columns_of` is the definition: the greater of two right ends is the end of the line.
use Rattle.board.specs.View.{board_of}
use Rattle.cut.specs.Past.{line-right}
use Rattle.cut.proofs.columns_of.Goals as goal

pub returns : goal.returns
returns c = let args = c.args in
    rw (← line-right (board_of args.b) args.l, ← c.saturating_sub.ensures) (cc)
