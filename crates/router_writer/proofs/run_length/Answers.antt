-- `run_length` scans while the direction stays the same: so far the directions are n steps before what is left.
use Rattle.std.proofs.Common.{arith, sym, ◌∙◌, ◌≡◌, ◌-◌, length}
use Rattle.router_writer.specs.Steps.{run-start, run_on, run-turns, run_ends}
use Rattle.router_writer.proofs.run_length.Goals as goal

pub loop-n-init : goal.loop-n-init
loop-n-init c = run-start c.args.dirs.now c.args.from c.requires

pub returns-then-code_of-d : goal.returns-then-code_of-d
returns-then-code_of-d c =
    run-turns c.args.dirs.now c.args.from c.loop-n.n (omega (arith, c.loop-n.auto.n)) (omega arith)
    (λ e. c.if-code_of-d.true (c.code_of.ensures ∙ (e ∙ sym c.code_of-d.ensures))) c.loop-n.invariant

pub loop-n-preserved : goal.loop-n-preserved
loop-n-preserved c =
    run_on c.args.dirs.now c.args.from c.loop-n.n (omega arith) (sym c.code_of.ensures ∙ (c.if-code_of-d.false ∙ c.code_of-d.ensures))
    c.loop-n.invariant

pub returns : goal.returns
returns c =
    let a = c.args in
    let e : c.loop-n.n ≡ length a.dirs.now - a.from = omega arith in
    rw e at (run_ends a.dirs.now a.from c.loop-n.n (omega (arith, c.loop-n.auto.n)) (omega arith) c.loop-n.invariant)
