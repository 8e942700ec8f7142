-- `walk_run` walks as the definition does. The invariant: from where the code stands, with what is left of the run, the walk comes to the same.
use native.Mathlib.Omega.{arith}
use mathlib.Core.Path.{◌≡◌}
use Prim.Native.Nat.{◌+◌, ◌-◌}
use Rattle.judge_walk.specs.WalkLaws.{along-start, along-again, along-on, along-done}
use Rattle.judge_walk.proofs.walk_run.Goals as goal

pub loop-init : goal.loop-init
loop-init c = let e : c.args.run.length - 0 ≡ c.args.run.length = omega arith in rw e along-start

pub returns-then-used-slot-gt0 : goal.returns-then-used-slot-gt0
returns-then-used-slot-gt0 c =
    along-again c.loop.invariant (omega arith) (cc c.is_edge.ensures.same) c.slot_of-slot.ensures.value c.if-used-slot-gt0.true

pub loop-preserved : goal.loop-preserved
loop-preserved c =
    let e : (c.args.run.length - c.loop.counter) - 1 ≡ c.args.run.length - (c.loop.counter + 1) = omega arith in
    rw (← e)
    (along-on c.loop.invariant (omega arith) (cc c.is_edge.ensures.same) c.slot_of-slot.ensures.value c.if-used-slot-gt0.false c.next_of-v.ensures)

pub returns : goal.returns
returns c = along-done c.loop.invariant (omega arith)
