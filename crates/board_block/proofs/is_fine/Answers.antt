-- The invariant: what was found, and that the taken pins of the places from there on are there, is that all are. That they come in reading order holds
-- of any array.
use native.Mathlib.Omega.{arith}
use mathlib.Core.Path.{refl}
use Rattle.board.specs.View.{board_of}
use Rattle.board_block.proofs.ViewLaws.{taken_ordered}
use Rattle.board_block.proofs.There.{there-next, there-last}
use borrow.Author.Rules.{rules}
use Rattle.board_block.proofs.is_fine.Goals as goal

pub loop-place-init : goal.loop-place-init
loop-place-init c = (search rules, refl)

pub loop-place-preserved : goal.loop-place-preserved
loop-place-preserved c =
    let at = c.loop-place in
    let b = c.args.b in (
      at.invariant.0,
      there-next b.book (board_of b.board) b.taken at.place at.ok c.is_there-ok.result _ (omega arith) c.is_there-ok.ensures at.invariant.1,
    )

pub returns : goal.returns
returns c =
    let at = c.loop-place in
    let b = c.args.b in
    rw (taken_ordered b.taken) (there-last b.book (board_of b.board) b.taken at.place at.ok _ (omega arith) at.invariant.1)
