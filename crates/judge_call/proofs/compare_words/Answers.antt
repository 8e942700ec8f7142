-- `compare_words` answers as the definition does.
use mathlib.Core.Path.{ap, sym, ◌∙◌}
use Rattle.std.proofs.lemmas.Result.{err_from_is_err_and}
use Rattle.session.specs.View.{session_of}
use Rattle.judge_list.specs.Verdicts.{comparison_of}
use Rattle.judge_list.specs.ComparisonLaws.{comparison-same}
use Rattle.judge_call.specs.Calls.{compare-unsound, compare-sound}
use Rattle.judge_call.proofs.compare_words.Goals as goal

pub returns-then-not-sound : goal.returns-then-not-sound
returns-then-not-sound c =
    sym (compare-unsound (session_of c.args.s) c.args.first.now c.args.second.now (sym c.sound.ensures.same ∙ c.if-not-sound.true))

pub returns-in_err-alike : goal.returns-in_err-alike
returns-in_err-alike c =
    let p = err_from_is_err_and c.from_residual.result c.from_residual.ensures.1 in
    let w = (c.sound.ensures.exact.0 c.if-not-sound.false).within in
    let e = c.compare.ensures ∙ comparison-same w c.args.s.nets c.args.first.now c.args.second.now in
    rw (p.1, p.2) ((sym (ap comparison_of c.in_err-alike.was) ∙ e)
    ∙ sym (compare-sound (session_of c.args.s) c.args.first.now c.args.second.now (sym c.sound.ensures.same ∙ c.if-not-sound.false)))

pub returns : goal.returns
returns c =
    let w = (c.sound.ensures.exact.0 c.if-not-sound.false).within in
    let e = c.compare.ensures ∙ comparison-same w c.args.s.nets c.args.first.now c.args.second.now in
    (sym (ap comparison_of c.in_ok-alike.was) ∙ e)
    ∙ sym (compare-sound (session_of c.args.s) c.args.first.now c.args.second.now (sym c.sound.ensures.same ∙ c.if-not-sound.false))
