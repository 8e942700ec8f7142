-- `check_words` refuses as the definition does. The invariant: the words from the first on are refused as those from index i on are.
use native.Mathlib.Omega.{arith}
use Rattle.judge_shape.specs.Moves.{stands_first, stands-wrong, stands_same, stands-taken, stands_end}
use Rattle.judge_shape.proofs.check_words.Goals as goal
use Rattle.judge_shape.proofs.check_words.Goals.{in-Same, in-Taken}
use mathlib.Core.Path.{◌≡◌, ap, ◌∙◌}
use Rattle.std.specs.Prelude.{Ok}
use Rattle.std.proofs.Common.{rules}
use Rattle.std.proofs.lemmas.Result.{err_from_is_err_and}
use Rattle.judge_shape.proofs.Answered.{map_err_ok, map_err_err}

pub loop-i-init : goal.loop-i-init
loop-i-init c = stands_first c.next_after-next.ensures

pub returns-in_err-step : goal.returns-in_err-step
returns-in_err-step c =
    let p = err_from_is_err_and c.from_residual.result c.from_residual.ensures.1 in
    let m = map_err_err _ c.move_to.result c.map_err.ensures.cases c.in_err-step.was in
    let q : c.in_err-step.field-0.0 ≡ record { fault = m.0; place = c.loop-i.i } = search rules in
    rw (p.1, p.2, q) (stands-wrong c.loop-i.invariant (omega arith) c.move_to.ensures m.1)

pub loop-i-preserved : goal.loop-i-preserved
loop-i-preserved c =
    let m = map_err_ok _ c.move_to.result c.map_err.ensures.cases c.in_ok-step.was in
    elim c.match-step.branch [
      | in-Same w ↦ rw (w.next-is, w.due-is) (stands_same c.loop-i.invariant (omega arith) c.move_to.ensures (m ∙ ap Ok w.in-Same.is))
      | in-Taken w ↦ rw (w.next-is, w.due-is)
          (stands-taken c.loop-i.invariant (omega arith) c.move_to.ensures (m ∙ ap Ok w.in-Taken.is) w.next_after-next-in-Taken.ensures)
    ]

pub returns : goal.returns
returns c = stands_end c.loop-i.invariant (omega arith) c.at_end.ensures
