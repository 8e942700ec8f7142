-- `as_run` says what a run word says: the packed word of its fields is compared with the word.
use Rattle.words.specs.RoutingWord.{run_word, run_in, as_run}
use borrow.Author.Tests.{eq-eqb, ne_eqb}
use mathlib.Core.Path.{refl, ap, sym, ◌∙◌}
use Rattle.words.proofs.as_run.Goals as goal

pub returns-then-pack_run-w : goal.returns-then-pack_run-w
unfolding as_run
returns-then-pack_run-w c =
    let w = c.args.w in
    rw (
      c.run_in-run.ensures.value,
      eq-eqb (run_word (run_in w)) w
          (ap run_word (sym c.run_in-run.ensures.value) ∙ (sym c.pack_run.ensures ∙ c.if-pack_run-w.true)),
    ) refl

pub returns-else-pack_run-w : goal.returns-else-pack_run-w
unfolding as_run
returns-else-pack_run-w c =
    let w = c.args.w in
    rw (ne_eqb (run_word (run_in w)) w (λ e. c.if-pack_run-w.false (c.pack_run.ensures
    ∙ (ap run_word c.run_in-run.ensures.value ∙ e)))) refl
