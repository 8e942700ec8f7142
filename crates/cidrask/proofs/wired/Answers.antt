-- `wired` tells the wire of the board that is read.
use borrow.Author.Rules.{rules}
use Rattle.cidrask.specs.Laws.{wired_as}
use Rattle.cidrask.proofs.wired.Goals as goal

pub returns : goal.returns
returns c = wired_as c.args.board.now c.on_board.ensures (λ s t p. search rules)
