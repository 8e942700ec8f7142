use Prim.Native.Nat.{◌-◌, ◌≤◌}
use mathlib.Core.Path.{◌≡◌}
use mathlib.Core.Bool.{◌&&◌}
use Rattle.board_convex.specs.Test.{peels, innermost}
use Rattle.board_convex.proofs.peel.Given as goal

abbrev pub invariant-loop-lo : goal.invariant-loop-lo
invariant-loop-lo l = (l.lo ≤ l.hi) × (l.hi ≤ l.last) × (l.ok && peels l.rows l.inner l.lo (l.hi - l.lo) ≡ peels l.rows innermost 0 l.last)

abbrev pub decreases-loop-lo : goal.decreases-loop-lo
decreases-loop-lo l = l.hi - l.lo
