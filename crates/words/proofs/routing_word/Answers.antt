-- `routing_word` is the definition, kind by kind.
use Rattle.words.specs.RoutingWord.{routing_word}
use Rattle.words.specs.Bits.{kind}
use borrow.Author.Rules.{rules}
use borrow.Author.Tests.{ne_eqb}
use mathlib.Core.Path.{◌≡◌, refl, sym, ◌∙◌}
use Rattle.words.proofs.routing_word.Goals as goal

pub returns-in-4 : goal.returns-in-4
unfolding routing_word
returns-in-4 c = let e : kind c.args.w ≡ 4 = sym c.kind_of.ensures ∙ c.in-4.is in rw e c.as_path.ensures

pub returns-in-5 : goal.returns-in-5
unfolding routing_word
returns-in-5 c = let e : kind c.args.w ≡ 5 = sym c.kind_of.ensures ∙ c.in-5.is in rw e c.as_run.ensures

pub returns-in-14 : goal.returns-in-14
unfolding routing_word
returns-in-14 c = let e : kind c.args.w ≡ 14 = sym c.kind_of.ensures ∙ c.in-14.is in rw e c.as_routing_end.ensures

pub returns-in_default : goal.returns-in_default
unfolding routing_word
returns-in_default c = rw (
  ne_eqb (kind c.args.w) 4 (λ e. search rules),
  ne_eqb (kind c.args.w) 5 (λ e. search rules),
  ne_eqb (kind c.args.w) 14 (λ e. search rules),
) refl
