-- `as_path` says what a path word says: the packed word of its fields is compared with the word.
use Rattle.words.specs.RoutingWord.{path_word, path_in, as_path}
use borrow.Author.Tests.{eq-eqb, ne_eqb}
use mathlib.Core.Path.{refl, ap, sym, ◌∙◌}
use Rattle.words.proofs.as_path.Goals as goal

pub returns-then-pack_path-w : goal.returns-then-pack_path-w
unfolding as_path
returns-then-pack_path-w c =
    let w = c.args.w in
    rw (
      c.path_in-path.ensures,
      eq-eqb (path_word (path_in w)) w
          (ap path_word (sym c.path_in-path.ensures) ∙ (sym c.pack_path.ensures ∙ c.if-pack_path-w.true)),
    ) refl

pub returns-else-pack_path-w : goal.returns-else-pack_path-w
unfolding as_path
returns-else-pack_path-w c =
    let w = c.args.w in
    rw (ne_eqb (path_word (path_in w)) w (λ e. c.if-pack_path-w.false
    (c.pack_path.ensures ∙ (ap path_word c.path_in-path.ensures ∙ e)))) refl
