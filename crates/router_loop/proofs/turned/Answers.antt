-- Turned or not: the comparison of the two widths, by the laws of Loop.
use Rattle.std.proofs.Common.{arith, ◌+◌}
use Rattle.router_loop.specs.Loop.{turn-yes, turn-no}
use Rattle.router_loop.proofs.turned.Goals as goal

pub returns-then-bottom-top-clause-turned : goal.returns-then-bottom-top-clause-turned
returns-then-bottom-top-clause-turned c =
    turn-yes c.args.lines.now c.args.w _ _ c.seen-b.result c.seen-t.result c.seen-t.ensures.value c.seen-b.ensures.value
    (omega (arith, c.from.ensures, c.from-2.ensures)) (omega (arith, c.from-3.ensures, c.from-4.ensures)) c.if-bottom-top.true

pub returns-clause-turned : goal.returns-clause-turned
returns-clause-turned c =
    turn-no c.args.lines.now c.args.w (c.from-3.result + c.from-4.result) (c.from.result + c.from-2.result)
    c.seen-b.result c.seen-t.result c.seen-t.ensures.value c.seen-b.ensures.value
    (omega (arith, c.from.ensures, c.from-2.ensures)) (omega (arith, c.from-3.ensures, c.from-4.ensures))
    (λ h. omega (arith, h, c.if-bottom-top.false))
