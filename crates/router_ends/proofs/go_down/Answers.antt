-- The pair goes down, or the router is stuck, by the laws of Moved.
use Rattle.std.proofs.Common.{arith, inl, inr, refl}
use Rattle.router_ends.specs.Moved.{no-down, goes-down}
use Rattle.router_ends.proofs.go_down.Goals as goal
use Rattle.router_ends.proofs.go_down.Goals.{then-x-from-via-then-x-from, then-x-from-via-else-x-from+then-i-w}

pub returns-then-x-from-clause-one_down : goal.returns-then-x-from-clause-one_down
returns-then-x-from-clause-one_down c =
    let a = c.args in
    no-down a.table.now a.notes.now a.lines.now a.w a.line a.x a.i c.from.result c.from.ensures (elim c.then-x-from.branch [
      | then-x-from-via-then-x-from w ↦ inl w.if-x-from.true
      | then-x-from-via-else-x-from+then-i-w w ↦ inr w.if-i-w.true
    ])

pub returns-clause-one_down : goal.returns-clause-one_down
returns-clause-one_down c =
    let a = c.args in
    goes-down a.table.now a.notes.now a.lines.now a.w a.line a.x a.i c.word-from.result c.below-to.result _ _ c.from.result c.word-from.ensures.0
    c.from.ensures (omega (arith, c.if-i-w.false)) c.slide.ensures.moved c.slide.ensures.left c.if-x-from.false c.below-to.ensures refl
    (rw c.from-2.ensures refl)
