-- `is_convex` tells whether the board is within the limits and convex.
use native.Mathlib.Omega.{arith}
use mathlib.Core.Path.{sym, ◌∙◌}
use Rattle.count.specs.TruthLaws.{decides}
use Rattle.board.specs.View.{board_of}
use Rattle.board_convex.proofs.Exact.{is-convex, outside_not_convex}
use Rattle.board_convex.specs.Test.{is_convex}
use Rattle.board_convex.proofs.Value.{count_of, convex_of}
use Rattle.board_convex.proofs.is_convex.Goals as goal

pub overflow_sub-n : goal.overflow_sub-n
overflow_sub-n c = (count_of c.args.b (c.within.ensures.exact.0 c.if-within.true)).0

pub peel-requires : goal.peel-requires
peel-requires c =
    let w = c.within.ensures.exact.0 c.if-within.true in
    omega (arith, c.from.ensures, (count_of c.args.b w).1)

pub returns-then-within : goal.returns-then-within
returns-then-within c =
    let b = c.args.b in
    let w = c.within.ensures.exact.0 c.if-within.true in
    decides _ (is_convex (board_of b)) (is-convex (board_of b)) (rw (convex_of b w, ← c.from.ensures) c.peel.ensures)

pub returns-else-within : goal.returns-else-within
returns-else-within c =
    let b = c.args.b in
    decides _ (is_convex (board_of b)) (is-convex (board_of b))
    (sym (outside_not_convex (board_of b) (sym c.within.ensures.same ∙ c.if-within.false)))
