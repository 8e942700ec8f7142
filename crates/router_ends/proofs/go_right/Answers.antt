-- The pair goes right, or the router is stuck, by the laws of Moved.
use Rattle.std.proofs.Common.{arith, inl, inr, refl, get_or, ◌+◌}
use Rattle.router_ends.specs.Moved.{no-right, goes-right}
use Rattle.router_ends.proofs.go_right.Goals as goal
use Rattle.router_ends.proofs.go_right.Goals.{then-w-via-then-w, then-w-via-else-w+then-from-x, then-w-via-else-w+else-from-x+then-i-w}

pub returns-then-w-clause-one_right : goal.returns-then-w-clause-one_right
returns-then-w-clause-one_right c =
    let a = c.args in
    no-right a.table.now a.notes.now a.lines.now a.w a.line a.x a.i (get_or a.lines.now.last a.line 0) refl (elim c.then-w.branch [
      | then-w-via-then-w w ↦ inl w.if-w.true
      | then-w-via-else-w+then-from-x w ↦ inr (inl (omega (arith, w.if-from-x.true, w.from.ensures)))
      | then-w-via-else-w+else-from-x+then-i-w w ↦ inr (inr w.if-i-w.true)
    ])

pub returns-clause-one_right : goal.returns-clause-one_right
returns-clause-one_right c =
    let a = c.args in
    goes-right a.table.now a.notes.now a.lines.now a.w a.line a.x a.i c.word-from.result (c.word-from.result + 1) _ _ c.from.result
    c.word-from.ensures.0 c.from.ensures (omega (arith, c.if-i-w.false)) c.slide.ensures.moved c.slide.ensures.left c.shorten.ensures
    c.if-w.false c.if-from-x.false refl refl refl
