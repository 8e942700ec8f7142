-- After l passes the arrays hold the first l lines.
use Rattle.std.proofs.Common.{arith}
use Rattle.router_start.specs.LineLaws.{board_is, lined-more}
use Rattle.router_start.proofs.fill_lines.Goals as goal

pub loop-l-preserved : goal.loop-l-preserved
loop-l-preserved c =
    lined-more (board_is c.args.b.rows c.from-n.result) (omega (arith, c.from-n.ensures)) _ _ _ c.loop-l.invariant (omega arith) (omega arith)
    (omega (arith, c.loop-l-test.true)) (rw (← c.saturating_sub.ensures, ← c.min.ensures) c.min-in-loop-l.ensures)
    (rw (← c.saturating_sub.ensures, ← c.min.ensures) c.max.ensures)
