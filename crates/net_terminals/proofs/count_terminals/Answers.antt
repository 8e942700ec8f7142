-- After i places the terminals of these are counted.
use native.Mathlib.Omega.{arith}
use Rattle.net_terminals.specs.Counting.{counting_start, counting_more, counting_done}
use borrow.Author.Rules.{rules}
use Rattle.net_terminals.proofs.count_terminals.Goals as goal

pub loop-place-init : goal.loop-place-init
loop-place-init c = (search rules, counting_start c.args.nets)

pub loop-place-preserved : goal.loop-place-preserved
loop-place-preserved c = (
  c.loop-place.invariant.0,
  rw c.count_place.ensures (counting_more c.loop-place.invariant.1 (omega arith)
      c.loop-place.invariant.0),
)

pub returns : goal.returns
returns c = counting_done c.loop-place.invariant.1 (omega arith)
