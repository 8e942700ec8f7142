use Rattle.std.proofs.Common.{◌≡◌, ◌≤◌}
use Rattle.router_table.specs.Scans.{leave_d}
use Rattle.router_table.proofs.leaving.Given as goal

abbrev pub invariant-loop-i : goal.invariant-loop-i
invariant-loop-i l = (l.count ≤ l.i) × (l.count ≡ leave_d l.table.first l.table.second l.l l.i)
