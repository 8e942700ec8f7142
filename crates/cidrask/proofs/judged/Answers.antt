-- `judged` judges the list against the board that is read.
use borrow.Author.Rules.{rules}
use Rattle.cidrask.specs.Laws.{judged_as}
use Rattle.cidrask.proofs.judged.Goals as goal

pub returns : goal.returns
returns c = judged_as c.args.board.now c.args.list.now c.on_board.ensures (λ s t p. search rules)
