use mathlib.Core.Path.{◌≡◌}
use Prim.Native.Nat.{suc, ◌+◌, ◌≤◌}
use lib.ListN.{length, drop}
use Rattle.net_places.specs.Places.{nets_from, nets_of}
use Rattle.net_places.proofs.count_nets.Given as goal

abbrev pub invariant-loop-place : goal.invariant-loop-place
invariant-loop-place l = (l.n ≤ l.place-index) × (l.n + length (nets_from (suc l.place-index) (drop l.place-index l.place-items)) ≡ length (nets_of l.place-items))
