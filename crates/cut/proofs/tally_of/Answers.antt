use native.Mathlib.Omega.{arith}
use Rattle.cut.specs.declared.Tally.{Tally}
use Rattle.cut.specs.Tally.{held_crosses}
use Rattle.cut.specs.Laws.{with-held, held_crosses_le, crossing_tally}
use Rattle.cut.specs.Cut.{crosses}
use Rattle.net.specs.View.{pairs_of, nothing}
use Rattle.net.specs.ViewLaws.{tally_more, tally_none}
use Rattle.count.specs.Truth.{one}
use lib.ListN.{length, get_or}
use mathlib.Core.Path.{◌≡◌, refl, ap, ◌∙◌}
use Prim.Native.Nat.{◌+◌}
use Rattle.cut.proofs.tally_of.Goals as goal

pub loop-place-init : goal.loop-place-init
loop-place-init c = (refl, omega arith, rw (crossing_tally c.args.x (pairs_of c.args.nets)) (omega arith))

pub counted-t-requires : goal.counted-t-requires
counted-t-requires c = omega arith

pub loop-place-preserved : goal.loop-place-preserved
loop-place-preserved c =
    let at = c.loop-place in let nets = c.args.nets in
    let x = c.args.x in
    let w = with-held at.t x (get_or nets at.place-index nothing) in
    let e = c.counted-t.ensures in
    let n : c.counted-t.result.nets ≡ at.t.nets + held_crosses x (get_or nets at.place-index nothing) = ap (λ (t : Tally). t.nets) e ∙ w.1 in
    let k = held_crosses_le x (get_or nets at.place-index nothing) in
    let m = tally_more (λ p. one (crosses x p)) nets at.place-index (omega arith) in
    (ap (λ (t : Tally). t.edges) e ∙ (w.0 ∙ at.invariant.0), omega arith, omega arith)

pub returns : goal.returns
returns c =
    let at = c.loop-place in let nets = c.args.nets in let x = c.args.x in
    let e : length nets ≡ at.place-index = omega arith in
    record {
      edges_are = at.invariant.0 ∙ c.edges_of.ensures.value;
      nets_are =
          omega (arith, rw e at (tally_none (λ p. one (crosses x p)) nets));
    }
