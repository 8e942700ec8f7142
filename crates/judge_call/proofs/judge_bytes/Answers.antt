-- `judge_bytes` judges the words of the bytes.
use mathlib.Core.Path.{ap, sym, ◌∙◌}
use Prim.Native.Nat.{ℕ}
use lib.ListN.{length-replicate}
use Rattle.std.proofs.lemmas.Result.{err_from_is_err_and}
use Rattle.words_bytes.specs.WordsLaws.{told-words}
use Rattle.session.specs.View.{session_of}
use Rattle.call_rules.specs.Judge.{judge_words}
use Rattle.judge_call.specs.Calls.{bytes-unsound, bytes-unfilled, bytes_even}
use Rattle.judge_call.proofs.judge_bytes.Goals as goal

pub returns-then-not-sound : goal.returns-then-not-sound
returns-then-not-sound c = sym (bytes-unsound (session_of c.args.s) c.args.bytes.now (sym c.sound.ensures.same ∙ c.if-not-sound.true))

pub returns-in_err-n : goal.returns-in_err-n
returns-in_err-n c =
    let p = err_from_is_err_and c.from_residual.result c.from_residual.ensures.1 in
    rw (p.1, p.2)
    (bytes-unfilled (session_of c.args.s) c.args.bytes.now c.in_err-n.field-0.0 (sym c.sound.ensures.same ∙ c.if-not-sound.false)
    c.fill_all.ensures (length-replicate {A = ℕ} 2049 0) c.in_err-n.was)

pub slice_bounds-words-end : goal.slice_bounds-words-end
slice_bounds-words-end c = (told-words c.fill_all.ensures c.in_ok-n.was).room

pub slice_bounds-judge_words-end : goal.slice_bounds-judge_words-end
slice_bounds-judge_words-end c = (told-words c.fill_all.ensures c.in_ok-n.was).count

pub returns : goal.returns
returns c =
    let filled = told-words c.fill_all.ensures c.in_ok-n.was in
    let t = sym c.sound.ensures.same ∙ c.if-not-sound.false in
    c.judge_words.ensures
    ∙ (ap (judge_words (session_of c.args.s)) filled.words ∙ sym (bytes_even (session_of c.args.s) c.args.bytes.now t filled.even))
