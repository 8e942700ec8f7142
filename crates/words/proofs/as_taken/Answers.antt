use Rattle.words.specs.BoardWord.{taken_word, taken_in, as_taken}
use Rattle.board_block.specs.Taken.{one_or_two}
use borrow.Author.Tests.{eq-eqb, ne_eqb}
use mathlib.Core.Bool.{true, false}
use mathlib.Core.Path.{◌≡◌, refl, sym, ◌∙◌}
use Rattle.words.proofs.as_taken.Goals as goal

pub returns-then-not-count : goal.returns-then-not-count
unfolding as_taken
returns-then-not-count c = let h : one_or_two (taken_in c.args.w).count ≡ false = c.if-not-count.true in rw h refl

pub returns-then-pack_taken-w : goal.returns-then-pack_taken-w
unfolding as_taken
returns-then-pack_taken-w c =
    let w = c.args.w in let h : one_or_two (taken_in w).count ≡ true = c.if-not-count.false in
    rw (
      h,
      eq-eqb (taken_word (taken_in w)) w (sym c.pack_taken.ensures ∙ c.if-pack_taken-w.true),
    ) refl

pub returns-else-pack_taken-w : goal.returns-else-pack_taken-w
unfolding as_taken
returns-else-pack_taken-w c =
    let w = c.args.w in let h : one_or_two (taken_in w).count ≡ true = c.if-not-count.false in
    rw (
      h,
      ne_eqb (taken_word (taken_in w)) w (λ e. c.if-pack_taken-w.false (c.pack_taken.ensures ∙ e)),
    ) refl
