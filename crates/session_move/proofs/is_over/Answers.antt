-- Where nothing is used there is nothing too many; else the two conditions of the test.
use mathlib.Core.Path.{refl}
use mathlib.Core.Logic.{inl, inr}
use native.Mathlib.Omega.{arith}
use borrow.Author.Tests.{le-ltb}
use Rattle.count.specs.TruthLaws.{bool}
use Rattle.board.specs.Degree.{vertex?}
use Rattle.board.specs.View.{board_of}
use Rattle.board_block.specs.Book.{pins_by}
use Rattle.board_block.specs.declared.Book.TheVariants.{New}
use Rattle.session_move.proofs.is_over.Goals as goal

pub returns-then-used-eq0 : goal.returns-then-used-eq0
returns-then-used-eq0 c =
    let args = c.args in let b = board_of args.b in
    elim (bool (vertex? b args.v)) [
      | inl e ↦ rw (e, le-ltb (pins_by New b args.v) args.used (omega (arith, c.if-used-eq0.true))) refl
      | inr e ↦ rw e refl
    ]

pub returns : goal.returns
returns c = rw (c.is_vertex.ensures.same, c.from.ensures, c.pins_by.ensures) refl
