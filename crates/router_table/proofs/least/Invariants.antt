use Rattle.router_table.specs.Scans.{LeastSo}
use Rattle.router_table.proofs.least.Given as goal

abbrev pub invariant-loop-i : goal.invariant-loop-i
invariant-loop-i l = LeastSo l.table.first l.table.second l.n l.x l.up l.i l.best l.line
