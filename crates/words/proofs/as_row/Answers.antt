use Rattle.words.specs.BoardWord.{row_word, row_in, as_row}
use borrow.Author.Tests.{eq-eqb, ne_eqb}
use mathlib.Core.Path.{refl, sym, ◌∙◌}
use Rattle.words.proofs.as_row.Goals as goal

pub returns-then-pack_row-w : goal.returns-then-pack_row-w
unfolding as_row
returns-then-pack_row-w c =
    let w = c.args.w in
    rw (eq-eqb (row_word (row_in w)) w (sym c.pack_row.ensures ∙ c.if-pack_row-w.true)) refl

pub returns-else-pack_row-w : goal.returns-else-pack_row-w
unfolding as_row
returns-else-pack_row-w c =
    let w = c.args.w in
    rw (ne_eqb (row_word (row_in w)) w (λ e. c.if-pack_row-w.false (c.pack_row.ensures ∙ e))) refl
