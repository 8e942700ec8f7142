-- `right_of` is the definition: the array's row, and below the last row one of no cell.
use mathlib.Core.Path.{sym, ap, ◌∙◌}
use native.Mathlib.Omega.{arith}
use lib.ListN.{get_or-eq_default}
use Rattle.board.specs.Board.{no_row}
use Rattle.board.specs.View.{board_of}
use Rattle.board.specs.ViewLaws.{height_of, right_of}
use Rattle.board.specs.declared.Row.{Row}
use Rattle.board.proofs.right_of.Goals as goal

pub returns-then-i-b : goal.returns-then-i-b
returns-then-i-b c = let args = c.args in
    ap (λ (r : Row). r.right) c.row_at.ensures ∙ sym (right_of args.b args.i c.if-i-b.true)

pub returns-else-i-b : goal.returns-else-i-b
returns-else-i-b c = let args = c.args in
    ap (λ (r : Row). r.right) (sym (get_or-eq_default (board_of args.b).rows no_row (omega (arith, height_of args.b))))
