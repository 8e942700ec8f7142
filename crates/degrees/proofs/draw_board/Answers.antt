-- After l turns the first l lines stand, of 33 bytes each.
use native.Mathlib.Omega.{arith}
use mathlib.Core.Path.{◌≡◌, refl, ◌∙◌}
use mathlib.Core.List.{flat_map}
use Prim.Native.Nat.{suc, min}
use Rattle.text.specs.Laws.{put_none, whole}
use Rattle.board.specs.Board.{height}
use Rattle.board.specs.View.{board_of}
use Rattle.board.specs.ViewLaws.{height_of}
use Rattle.degrees.specs.Drawing.{line_drawn}
use Rattle.degrees.specs.Laws.{line-33, put_line_more}
use Rattle.degrees.proofs.draw_board.Goals as goal

pub loop-l-init : goal.loop-l-init
unfolding flat_map
loop-l-init c =
    let args = c.args in
    (refl, refl, put_none 0 args.out.now)

pub loop-l-preserved : goal.loop-l-preserved
loop-l-preserved c =
    let draw-line = c.draw_line-end in
    let loop = c.loop-l in
    let args = c.args in let b = board_of args.b in (
      omega (arith, draw-line.ensures.ends, line-33 b loop.l),
      draw-line.auto.out ∙ loop.invariant.1,
      put_line_more (line_drawn b) loop.l loop.invariant.2 draw-line.ensures,
    )

pub returns : goal.returns
returns c =
    let loop = c.loop-l in
    let args = c.args in
    let e : loop.l ≡ suc (min (height (board_of args.b)) 31) = omega (arith, c.min-lines.ensures, height_of args.b) in
    whole (rw e at loop.invariant.2) (omega (arith, c.min-lines.ensures, loop.invariant.1))
