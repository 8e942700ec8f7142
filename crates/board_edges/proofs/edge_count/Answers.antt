-- `edge_count` goes through the rows: what those so far add, and the widest of them.
use mathlib.Core.Path.{◌≡◌, sym}
use native.Mathlib.Numerals.{add-one}
use native.Mathlib.Omega.{arith}
use Rattle.count.specs.Sum.{sum, sum_zero, sum_suc}
use Rattle.board.specs.Board.{height}
use Rattle.board.specs.View.{board_of}
use Rattle.board.specs.ViewLaws.{height_of}
use Rattle.board_pins.specs.Pins as pins
use Rattle.board_edges.proofs.ByRows.{row_adds, widest_more, widest_none, edges-by-rows}
use Rattle.board_edges.proofs.edge_count.Goals as goal

pub loop-i-init : goal.loop-i-init
loop-i-init c = let b = board_of c.args.b in (omega arith, omega arith, sym (sum_zero (row_adds b)), sym (widest_none b), omega arith)

pub width_of-width-requires : goal.width_of-width-requires
width_of-width-requires c = (c.requires.0, c.loop-i-test.true)

pub overflow_mul-edges : goal.overflow_mul-edges
overflow_mul-edges c = omega (arith, c.from.ensures)

pub overflow_add-edges : goal.overflow_add-edges
overflow_add-edges c = omega (arith, c.from.ensures)

pub overflow_add-edges-in-loop-i : goal.overflow_add-edges-in-loop-i
overflow_add-edges-in-loop-i c = omega (arith, c.from.ensures)

pub loop-i-preserved : goal.loop-i-preserved
loop-i-preserved c =
    let at_wide = c in let at-width-of = at_wide in let at-loop = at-width-of in
    let b = board_of at-loop.args.b in let loop = at-loop.loop-i in
    let w = at_wide.from.ensures in let e = c.width_of-width.ensures in (
      omega arith,
      omega arith,
      rw (add-one loop.i) (omega (arith, sum_suc loop.i (row_adds b), loop.invariant.2)),
      rw (add-one loop.i) (omega (arith, widest_more b loop.i, c.max-widest.ensures, loop.invariant.3)),
      omega (arith, c.max-widest.ensures, loop.invariant.4),
    )

pub overflow_add-result : goal.overflow_add-result
overflow_add-result c = omega (arith, c.loop-i.invariant.4)

pub returns : goal.returns
returns c =
    let at-loop = c in let loop = at-loop.loop-i in let start = at-loop in
    let b = board_of start.args.b in
    let h : loop.i ≡ height b = omega (arith, c.loop-i-test.false, height_of start.args.b) in
    let s : loop.edges ≡ sum (height b) (row_adds b) = rw h at loop.invariant.2 in
    let w : loop.widest ≡ pins.widest b (height b) = rw h at loop.invariant.3 in
    omega (arith, c.from-2.ensures, edges-by-rows b start.requires.0 start.requires.1)
