-- `judge_words` answers as the definition does.
use mathlib.Core.Path.{ap, sym, ◌∙◌}
use Rattle.std.proofs.lemmas.Result.{err_from_is_err_and}
use Rattle.session.specs.View.{session_of}
use Rattle.judge_list.specs.Verdicts.{verdict_of}
use Rattle.judge_list.specs.VerdictLaws.{verdict_same}
use Rattle.judge_call.specs.Calls.{judge-unsound, judge-sound}
use Rattle.judge_call.proofs.judge_words.Goals as goal

pub returns-then-not-sound : goal.returns-then-not-sound
returns-then-not-sound c = sym (judge-unsound (session_of c.args.s) c.args.words.now (sym c.sound.ensures.same ∙ c.if-not-sound.true))

pub returns-in_err-report : goal.returns-in_err-report
returns-in_err-report c =
    let p = err_from_is_err_and c.from_residual.result c.from_residual.ensures.1 in
    let w = (c.sound.ensures.exact.0 c.if-not-sound.false).within in
    let e = c.judge.ensures ∙ verdict_same w c.args.s.nets c.args.words.now in
    rw (p.1, p.2) ((sym (ap verdict_of c.in_err-report.was) ∙ e)
    ∙ sym (judge-sound (session_of c.args.s) c.args.words.now (sym c.sound.ensures.same ∙ c.if-not-sound.false)))

pub returns-in_ok-report : goal.returns-in_ok-report
returns-in_ok-report c =
    let w = (c.sound.ensures.exact.0 c.if-not-sound.false).within in
    let e = c.judge.ensures ∙ verdict_same w c.args.s.nets c.args.words.now in
    (sym (ap verdict_of c.in_ok-report.was) ∙ e)
    ∙ sym (judge-sound (session_of c.args.s) c.args.words.now (sym c.sound.ensures.same ∙ c.if-not-sound.false))
