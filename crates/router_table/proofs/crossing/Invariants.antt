use Rattle.std.proofs.Common.{◌≡◌, ◌≤◌}
use Rattle.router_table.specs.Scans.{cross_d}
use Rattle.router_table.proofs.crossing.Given as goal

abbrev pub invariant-loop-i : goal.invariant-loop-i
invariant-loop-i l = (l.count ≤ l.i) × (l.count ≡ cross_d l.table.first l.table.second l.x l.i)
