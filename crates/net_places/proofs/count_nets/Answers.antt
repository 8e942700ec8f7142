-- `count_nets` counts the nets. The invariant: the count and the nets from place i on are all the nets.
use native.Mathlib.Omega.{arith}
use mathlib.Core.Path.{◌≡◌, ap}
use Prim.Native.Nat.{suc}
use lib.ListN.{length, drop}
use Rattle.net_places.specs.Places.{nets_from}
use Rattle.net_places.proofs.CountLaws.{nets_none, length_more, length_first}
use Rattle.net_places.proofs.count_nets.Goals as goal

pub loop-place-init : goal.loop-place-init
loop-place-init c = (omega arith, omega (arith, length_first c.args.nets))

pub overflow_add-n : goal.overflow_add-n
overflow_add-n c = omega arith

pub loop-place-preserved : goal.loop-place-preserved
loop-place-preserved c = (
  omega arith,
  omega (
    arith,
    c.held_one-n.ensures.value,
    length_more c.args.nets c.loop-place.place-index (omega arith),
  ),
)

pub returns : goal.returns
returns c = let at = c.loop-place in let nets = c.args.nets in
    let l : length (nets_from (suc at.place-index) (drop at.place-index nets)) ≡ 0 = ap length (nets_none nets at.place-index (omega arith)) in
    omega arith
