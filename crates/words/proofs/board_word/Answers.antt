-- `board_word` is the definition, kind by kind.
use Rattle.words.specs.BoardWord.{board_word}
use Rattle.words.specs.Bits.{kind}
use borrow.Author.Rules.{rules}
use borrow.Author.Tests.{ne_eqb}
use mathlib.Core.Path.{◌≡◌, refl, sym, ◌∙◌}
use Rattle.words.proofs.board_word.Goals as goal

pub returns-in-1 : goal.returns-in-1
unfolding board_word
returns-in-1 c = let e : kind c.args.w ≡ 1 = sym c.kind_of.ensures ∙ c.in-1.is in rw e c.as_row.ensures

pub returns-in-2 : goal.returns-in-2
unfolding board_word
returns-in-2 c = let e : kind c.args.w ≡ 2 = sym c.kind_of.ensures ∙ c.in-2.is in rw e c.as_net.ensures

pub returns-in-3 : goal.returns-in-3
unfolding board_word
returns-in-3 c = let e : kind c.args.w ≡ 3 = sym c.kind_of.ensures ∙ c.in-3.is in rw e c.as_taken.ensures

pub returns-in-15 : goal.returns-in-15
unfolding board_word
returns-in-15 c = let e : kind c.args.w ≡ 15 = sym c.kind_of.ensures ∙ c.in-15.is in rw e c.as_end.ensures

pub returns-in_default : goal.returns-in_default
unfolding board_word
returns-in_default c = rw (
  ne_eqb (kind c.args.w) 1 (λ e. search rules),
  ne_eqb (kind c.args.w) 2 (λ e. search rules),
  ne_eqb (kind c.args.w) 3 (λ e. search rules),
  ne_eqb (kind c.args.w) 15 (λ e. search rules),
) refl
