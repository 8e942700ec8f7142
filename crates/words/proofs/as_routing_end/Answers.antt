use Rattle.words.specs.Bits.{bits}
use Rattle.words.specs.RoutingWord.{routing_end_word, as_routing_end}
use borrow.Author.Tests.{eq-eqb, ne_eqb}
use mathlib.Core.Path.{refl, sym, ◌∙◌}
use Rattle.words.proofs.as_routing_end.Goals as goal

pub returns-then-pack_routing_end-w : goal.returns-then-pack_routing_end-w
unfolding as_routing_end
returns-then-pack_routing_end-w c =
    let w = c.args.w in
    rw (eq-eqb (routing_end_word (bits 0 8 w)) w (sym c.pack_routing_end.ensures ∙ c.if-pack_routing_end-w.true)) refl

pub returns-else-pack_routing_end-w : goal.returns-else-pack_routing_end-w
unfolding as_routing_end
returns-else-pack_routing_end-w c =
    let w = c.args.w in
    rw (ne_eqb (routing_end_word (bits 0 8 w)) w (λ e. c.if-pack_routing_end-w.false (c.pack_routing_end.ensures ∙ e))) refl
