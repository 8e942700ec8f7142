use Rattle.std.proofs.Common.{◌≡◌, ◌+◌, ◌*◌, ◌≤◌}
use Rattle.router_ends.specs.View.{run, Low}
use Rattle.router_loop.specs.Promise.{After}
use Rattle.router_loop.proofs.cut_all.Given as goal

abbrev pub invariant-loop-t : goal.invariant-loop-t
invariant-loop-t l = record {
  top : l.w.top ≤ 31;
  bottom : l.w.bottom ≤ 31;
  pairs : l.w.n ≤ 64 + l.t;
  next : l.w.next ≤ 64 + 2 * l.t;
  low : Low l.table.number;
  kept : l.lines.last ≡ l.initial.lines.last;
  after : After (run l.initial.table l.initial.notes l.initial.lines l.initial.w) (run l.table l.notes l.lines l.w) l.t;
}
