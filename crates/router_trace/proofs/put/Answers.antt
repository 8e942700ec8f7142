-- `put` writes one direction where there is room; where there is none, it does not fit.
use Rattle.router_trace.specs.Writing.{writes_set, writes_full}
use Rattle.router_trace.proofs.put.Goals as goal

pub returns-then-at-lt-STEPS : goal.returns-then-at-lt-STEPS
returns-then-at-lt-STEPS c = writes_set c.args.at c.args.d c.args.out.now c.if-at-lt-STEPS.true

pub returns : goal.returns
returns c = writes_full c.args.at c.args.d c.args.out.now c.if-at-lt-STEPS.false
