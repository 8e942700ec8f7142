use Rattle.words.specs.BoardWord.{end_word, end_in, as_end}
use borrow.Author.Tests.{eq-eqb, ne_eqb}
use mathlib.Core.Path.{refl, sym, ◌∙◌}
use Rattle.words.proofs.as_end.Goals as goal

pub returns-then-pack_end-w : goal.returns-then-pack_end-w
unfolding as_end
returns-then-pack_end-w c =
    let at = c in
    let w = at.args.w in
    let book = at.from-book.ensures in
    let packed = rw book at c.pack_end.ensures in
    rw (book, eq-eqb (end_word (end_in w).book (end_in w).rows (end_in w).nets) w (sym packed ∙ c.if-pack_end-w.true)) refl

pub returns-else-pack_end-w : goal.returns-else-pack_end-w
unfolding as_end
returns-else-pack_end-w c =
    let at = c in
    let w = at.args.w in
    let packed = rw at.from-book.ensures at c.pack_end.ensures in
    rw (ne_eqb (end_word (end_in w).book (end_in w).rows (end_in w).nets) w (λ e. c.if-pack_end-w.false (packed ∙ e))) refl
