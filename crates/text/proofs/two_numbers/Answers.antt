-- The digits of the first number stand for a name.
use Rattle.text.specs.Laws.{decimal_is}
use Rattle.text.proofs.two_numbers.Goals as goal

pub returns : goal.returns
returns c = let decimal = c.decimal-count in rw (← decimal_is _ _ decimal.ensures.len, ← decimal.ensures.digits) c.line.ensures
