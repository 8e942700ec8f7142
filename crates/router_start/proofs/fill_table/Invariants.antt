use Rattle.std.proofs.Common.{◌≤◌, take}
use Rattle.net.specs.View.{pairs_of}
use Rattle.router_start.specs.Table.{FillsIn}
use Rattle.router_start.proofs.fill_table.Given as goal

abbrev pub invariant-loop-place : goal.invariant-loop-place
invariant-loop-place l = (l.k ≤ l.place-index)
    × FillsIn (pairs_of (take l.place-index l.place-items)) l.k l.initial.table l.initial.notes l.table l.notes
