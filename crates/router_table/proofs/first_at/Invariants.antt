use Rattle.router_table.specs.Scans.{Clear}
use Rattle.router_table.proofs.first_at.Given as goal

abbrev pub invariant-loop-i : goal.invariant-loop-i
invariant-loop-i l = Clear l.table.first l.table.second l.v l.from l.i
