use Rattle.std.proofs.Common.{◌+◌, take}
use Rattle.router_start.specs.Table.{PutsIn}
use Rattle.router_start.proofs.fill_helpers.Given as goal

abbrev pub invariant-loop-i : goal.invariant-loop-i
invariant-loop-i l = PutsIn (take l.i l.pairs) l.k l.initial.table l.initial.notes (l.k + l.i) l.table l.notes
