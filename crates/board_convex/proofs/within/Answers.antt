-- `within` tells whether the board is within the limits.
use native.Mathlib.Omega.{arith}
use lib.Dec.{leb}
use borrow.Author.Tests.{leb-true}
use mathlib.Core.Path.{◌≡◌, refl}
use mathlib.Core.Bool.{true, false, ◌&&◌}
use Rattle.count.specs.TruthLaws.{and_true, decides}
use Rattle.board.specs.View.{board_of}
use Rattle.board_convex.specs.Test.{in_limits}
use Rattle.board_convex.proofs.Limits.{in-limits}
use Rattle.board_convex.proofs.Value.{limits_of}
use Rattle.board_convex.proofs.within.Goals as goal

pub rows_fit-requires : goal.rows_fit-requires
rows_fit-requires c =
    let n = c.args.b.count in
    let t : leb 1 n && leb n 31 ≡ true = c.if-n.true in
    omega (arith, c.from.ensures, leb-true n 31 (and_true (leb 1 n) (leb n 31) t).1)

pub returns-then-n : goal.returns-then-n
returns-then-n c =
    let b = c.args.b in
    let t : leb 1 b.count && leb b.count 31 ≡ true = c.if-n.true in
    decides _ (in_limits (board_of b)) (in-limits (board_of b)) (rw (limits_of b, t, ← c.from.ensures) c.rows_fit.ensures)

pub returns-else-n : goal.returns-else-n
returns-else-n c =
    let b = c.args.b in
    let t : leb 1 b.count && leb b.count 31 ≡ false = c.if-n.false in
    decides _ (in_limits (board_of b)) (in-limits (board_of b)) (rw (limits_of b, t) refl)
