-- Of the places passed no net crosses a column from `last` on, so that those still to come sum to all that cross it.
use native.Mathlib.Omega.{arith}
use mathlib.Core.Path.{◌≡◌, sym, ◌∙◌}
use lib.ListN.{length, get_or}
use Rattle.count.specs.Truth.{one}
use Rattle.net.specs.View.{pairs_of, nothing}
use Rattle.net.specs.ViewLaws.{tally_more, tally_none}
use Rattle.cut.specs.Cut.{crosses}
use Rattle.cut.specs.Laws.{crossing_tally}
use Rattle.cut.specs.declared.Cut.TheVariants.{Column}
use Rattle.cut_search.specs.Beyond.{further_left, further_none}
use Rattle.cut_search.proofs.last_column.Goals as goal

pub loop-place-init : goal.loop-place-init
loop-place-init c = (λ j h. sym (crossing_tally (Column j) (pairs_of c.args.nets)))

pub loop-place-preserved : goal.loop-place-preserved
loop-place-preserved c =
    let loop = c.loop-place in let nets = c.args.nets in
    let held = get_or nets loop.place-index nothing in let e = c.further-last.ensures in
    λ j h.
    let m = tally_more (λ p. one (crosses (Column j) p)) nets loop.place-index (omega arith) in
    omega (arith, m, loop.invariant j (omega (arith, e, further_left loop.last held)), further_none loop.last j held (omega arith))

pub returns : goal.returns
returns c = let loop = c.loop-place in let nets = c.args.nets in
    let e : length nets ≡ loop.place-index = omega arith in
    record { none_crosses = λ j h. sym (loop.invariant j h) ∙ rw e at (tally_none (λ p. one (crosses (Column j) p)) nets) }
