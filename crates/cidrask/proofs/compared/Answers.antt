-- `compared` compares the two lists on the board that is read.
use borrow.Author.Rules.{rules}
use Rattle.cidrask.specs.Laws.{compared_as}
use Rattle.cidrask.proofs.compared.Goals as goal

pub returns : goal.returns
returns c = compared_as c.args.board.now c.args.one.now c.args.two.now c.on_board.ensures (λ s t p. search rules)
