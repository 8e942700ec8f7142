use mathlib.Core.Path.{◌≡◌}
use Prim.Native.Nat.{suc}
use lib.ListN.{drop}
use Rattle.net_places.specs.Places.{nets_from}
use Rattle.judge_shape.proofs.next_after.Given as goal

abbrev pub invariant-loop-i : goal.invariant-loop-i
invariant-loop-i l = nets_from (suc l.i) (drop l.i l.nets) ≡ nets_from (suc l.initial.i) (drop l.initial.i l.nets)
