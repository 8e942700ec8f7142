use Rattle.words.specs.BoardWord.{net_word, net_in, as_net}
use borrow.Author.Tests.{eq-eqb, ne_eqb}
use mathlib.Core.Path.{refl, sym, ◌∙◌}
use Rattle.words.proofs.as_net.Goals as goal

pub returns-then-pack_net-w : goal.returns-then-pack_net-w
unfolding as_net
returns-then-pack_net-w c =
    let w = c.args.w in
    rw (eq-eqb (net_word (net_in w)) w (sym c.pack_net.ensures ∙ c.if-pack_net-w.true)) refl

pub returns-else-pack_net-w : goal.returns-else-pack_net-w
unfolding as_net
returns-else-pack_net-w c =
    let w = c.args.w in
    rw (ne_eqb (net_word (net_in w)) w (λ e. c.if-pack_net-w.false (c.pack_net.ensures ∙ e))) refl
