use Rattle.net.specs.ViewLaws.{tally_more, tally_none, terminals_tally}
use Rattle.net.specs.Terminals.{ends}
use lib.ListN.{length}
use mathlib.Core.Path.{◌≡◌}
use native.Mathlib.Omega.{arith}
use Rattle.net.proofs.terminals_at.Goals as goal

pub loop-place-init : goal.loop-place-init
loop-place-init c = (omega arith, rw (terminals_tally) (omega arith))

pub overflow_add-n : goal.overflow_add-n
overflow_add-n c = omega (arith, c.held_ends-n.ensures.upper_bound)

pub loop-place-preserved : goal.loop-place-preserved
loop-place-preserved c =
    let nets = c.args.nets in let v = c.args.v in
    let at = c.loop-place in (
      omega (arith, c.held_ends-n.ensures.upper_bound),
      omega (arith, tally_more (λ p. ends p v) nets at.place-index (omega arith), c.held_ends-n.ensures.value),
    )

pub returns : goal.returns
returns c =
    let nets = c.args.nets in let v = c.args.v in let at = c.loop-place in
    let e : length nets ≡ at.place-index = omega arith in
    record {
      value = omega (arith, rw e at (tally_none (λ p. ends p v) nets));
      upper_bound = omega arith;
    }
