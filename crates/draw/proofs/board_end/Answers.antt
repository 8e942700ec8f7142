-- No word that the loop has seen is the end word.
use mathlib.Core.Path.{◌∙◌}
use native.Mathlib.Omega.{arith}
use Rattle.draw.specs.Laws.{looked-end, looked-on, looked-all}
use Rattle.draw.proofs.board_end.Goals as goal

pub returns-then-is_last-clause-value : goal.returns-then-is_last-clause-value
returns-then-is_last-clause-value c =
    let seen = c.loop-word.invariant in
    let step = rw c.in-Some.is at c.next.ensures.steps in
    looked-end seen.1 _ _ step.1.0 (step.1.1 ∙ seen.0) c.if-is_last.true

pub loop-word-preserved : goal.loop-word-preserved
loop-word-preserved c =
    let seen = c.loop-word.invariant in
    let step = rw c.in-Some.is at c.next.ensures.steps in
    (step.0 ∙ seen.0, looked-on seen.1 _ _ step.1.0 (step.1.1 ∙ seen.0) c.if-is_last.false)

pub returns-clause-value : goal.returns-clause-value
returns-clause-value c =
    let seen = c.loop-word.invariant in
    let step = rw c.in-None.is at c.next.ensures.steps in
    looked-all seen.1 (omega (arith, step.1.0, seen.0))
