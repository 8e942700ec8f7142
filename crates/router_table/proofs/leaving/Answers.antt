-- The count after i rows is that of the definition.
use Rattle.std.proofs.Common.{sym, arith}
use Rattle.router_table.specs.ScanLaws.{apart_is, leave_none, leave_next}
use Rattle.router_table.proofs.leaving.Goals as goal

pub loop-i-init : goal.loop-i-init
loop-i-init c = (omega arith, sym (leave_none _ _ _))

pub loop-i-preserved : goal.loop-i-preserved
loop-i-preserved c =
    let e = apart_is _ _ (rw (c.from.ensures, c.from-in-loop-i.ensures) at c.from-count.ensures) in
    (omega (arith, e.1, c.loop-i.invariant.0), rw (leave_next, ← c.loop-i.invariant.1) (omega (arith, e.0)))
