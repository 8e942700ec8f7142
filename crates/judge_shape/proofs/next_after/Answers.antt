-- `next_after` finds the next net. The invariant: the nets from place i on are those from the start on.
use native.Mathlib.Omega.{arith}
use mathlib.Core.Path.{sym, ◌∙◌}
use Rattle.judge_shape.specs.States.{at-end}
use Rattle.net_places.proofs.CountLaws.{nets_none}
use Rattle.judge_shape.specs.Moves.{nets_skip, starts_here}
use Rattle.judge_shape.proofs.next_after.Goals as goal

pub returns-then-is_some : goal.returns-then-is_some
returns-then-is_some c = rw (← c.loop-i.invariant) (starts_here c.args.nets c.loop-i.i (omega arith) (cc))

pub loop-i-preserved : goal.loop-i-preserved
loop-i-preserved c = sym (nets_skip c.args.nets c.loop-i.i (omega arith) (cc)) ∙ c.loop-i.invariant

pub returns : goal.returns
returns c = rw (← c.loop-i.invariant, nets_none c.args.nets c.loop-i.i (omega arith)) at-end
