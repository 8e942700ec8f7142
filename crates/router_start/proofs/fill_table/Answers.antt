-- After i places the table holds the pairs of these.
use Rattle.std.proofs.Common.{arith, ap, refl, get_or, length, ◌+◌}
use Rattle.net.specs.View.{nothing}
use Rattle.router_start.specs.TableLaws.{kept_on, fills_none, fills-place, pairs_more, pairs_few}
use Rattle.router_start.proofs.fill_table.Goals as goal

pub loop-place-init : goal.loop-place-init
loop-place-init c = (omega arith, (fills_none c.args.nets _ _ _ _ _, (refl, refl, refl, refl, refl)))

pub loop-place-preserved : goal.loop-place-preserved
loop-place-preserved c =
    let l = c.loop-place in
    let T = fills-place c.requires (omega arith) l.invariant.1.0 (get_or c.args.nets l.place-index nothing) c.fill_place-k.ensures.0 in
    let e = pairs_more c.args.nets l.place-index (omega arith) in (
      omega (arith, T.count, pairs_few c.args.nets (l.place-index + 1), ap length e),
      (rw e T, kept_on c.args.notes.now l.notes c.fill_place-k.new.notes l.invariant.1.1 c.fill_place-k.ensures.1),
    )
