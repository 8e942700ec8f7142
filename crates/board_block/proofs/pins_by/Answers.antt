-- By the old rule the board's own pins; by the new one a vertex with two of them, which is one of degree 2, has one.
use mathlib.Core.Path.{refl, sym, ◌∙◌}
use borrow.Author.Tests.{eq-eqb, ne_eqb}
use Rattle.board.specs.View.{board_of}
use Rattle.board_block.specs.Book.{pins_by}
use Rattle.board_block.proofs.Pins.{two_pins}
use Rattle.board_block.proofs.pins_by.Goals as goal

pub returns-in-Old : goal.returns-in-Old
unfolding pins_by
returns-in-Old c = rw c.in-Old.is c.pins_of-all.ensures

pub returns-then-all-eq2 : goal.returns-then-all-eq2
unfolding pins_by
returns-then-all-eq2 c =
    let all = c.pins_of-all.ensures in
    let args = c.args in
    rw (c.in-New.is, two_pins (board_of args.b) args.v, eq-eqb _ _ (sym all ∙ c.if-all-eq2.true)) refl

pub returns-else-all-eq2 : goal.returns-else-all-eq2
unfolding pins_by
returns-else-all-eq2 c =
    let all = c.pins_of-all.ensures in
    let args = c.args in
    rw (c.in-New.is, two_pins (board_of args.b) args.v, ne_eqb _ _ (λ e. c.if-all-eq2.false (all ∙ e))) all
