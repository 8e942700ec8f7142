-- `width_of` takes a row's ends from the array.
use Prim.Native.Nat.{◌<◌}
use native.Mathlib.Omega.{arith}
use Rattle.board.specs.Board.{height}
use Rattle.board.specs.View.{board_of}
use Rattle.board.specs.ViewLaws.{height_of, left-of, right_of}
use Rattle.board_edges.proofs.width_of.Goals as goal

pub bounds-rows-from : goal.bounds-rows-from
bounds-rows-from c =
    let start = c in let p = start.requires in
    omega (arith, c.from.ensures, p.0.few, p.1, height_of start.args.b)

pub overflow_sub-result : goal.overflow_sub-result
overflow_sub-result c =
    let at_wide = c in let start = at_wide in let args = start.args in let p = start.requires in
    let i : args.i < height (board_of args.b) = omega (arith, p.1, height_of args.b) in
    rw at_wide.from.ensures (omega (arith, left-of args.b args.i p.1, right_of args.b args.i p.1, p.0.cells args.i i))

pub returns : goal.returns
returns c =
    let at_wide = c in let args = at_wide.args in let p = at_wide.requires in
    rw at_wide.from.ensures (omega (arith, left-of args.b args.i p.1, right_of args.b args.i p.1))
