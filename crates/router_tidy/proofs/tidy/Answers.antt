-- After each pass of the loop the rows before i are not trivial, by the laws of TidyLaws.
use Rattle.std.proofs.Common.{arith, ◌≡◌}
use Rattle.router_tidy.specs.TidyLaws.{tidy_none, tidy_next, tidy_drop}
use Rattle.router_tidy.proofs.tidy.Goals as goal

pub loop-i-init : goal.loop-i-init
loop-i-init c = (omega arith, omega arith, tidy_none _ _)

pub loop-i-preserved-then-table-i : goal.loop-i-preserved-then-table-i
loop-i-preserved-then-table-i c =
    let loop = c.loop-i in (
      omega arith,
      omega arith,
      tidy_drop c.args.table.now c.args.n loop.table loop.m loop.i _ loop.invariant.2 (omega arith) (omega arith) c.if-table-i.true
          c.drop_row.ensures,
    )

pub loop-i-preserved : goal.loop-i-preserved
loop-i-preserved c =
    let loop = c.loop-i in
    (omega arith, omega arith, tidy_next c.args.table.now c.args.n loop.table loop.m loop.i loop.invariant.2 c.if-table-i.false)

pub returns : goal.returns
returns c = record {
  upper_bound = omega arith;
  tidied = let e : c.loop-i.i ≡ c.loop-i.m = omega arith in rw e at c.loop-i.invariant.2;
}
