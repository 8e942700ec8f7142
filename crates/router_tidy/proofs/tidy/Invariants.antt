use Rattle.std.proofs.Common.{◌-◌, ◌≤◌}
use Rattle.router_tidy.specs.Tidy.{Tidied}
use Rattle.router_tidy.proofs.tidy.Given as goal

abbrev pub invariant-loop-i : goal.invariant-loop-i
invariant-loop-i l = (l.i ≤ l.m) × (l.m ≤ l.n) × Tidied l.initial.table l.n l.table l.m l.i

abbrev pub decreases-loop-i : goal.decreases-loop-i
decreases-loop-i l = l.m - l.i
