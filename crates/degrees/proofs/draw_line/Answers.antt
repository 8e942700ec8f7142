-- After c turns the first c signs of the line stand; the line feed ends it.
use native.Mathlib.Omega.{arith}
use mathlib.Core.Path.{◌≡◌, refl, sym}
use lib.ListN.{length-set}
use lib.Seq.{paste-zero}
use Rattle.board.specs.View.{board_of}
use Rattle.text.specs.Laws.{copied, put_copied}
use Rattle.degrees.specs.Drawing.{line_drawn}
use Rattle.degrees.specs.Laws.{line-33, sign_at, line-feed}
use Rattle.degrees.proofs.draw_line.Goals as goal

pub loop-c-init : goal.loop-c-init
loop-c-init c =
    let args = c.args in
    (refl, paste-zero args.out.now args.at (line_drawn (board_of args.b) args.l))

pub loop-c-preserved : goal.loop-c-preserved
loop-c-preserved c =
    let kind-of = c.kind_of-kind in
    let loop = c.loop-c in
    let args = c.args in let b = board_of args.b in
    let more = rw (sign_at b args.l loop.c (omega arith)) at
    (copied (line_drawn b args.l) args.out.now args.at loop.c (omega arith) (omega (arith, line-33 b args.l)) loop.invariant.1) in (
      rw length-set loop.invariant.0,
      rw (c.from.ensures, c.sign.ensures, kind-of.ensures) more,
    )

pub returns : goal.returns
returns c =
    let loop = c.loop-c in
    let args = c.args in let b = board_of args.b in let whole = line-33 b args.l in
    let all : loop.c ≡ 32 = omega arith in
    let drawn = rw (line-feed b args.l) at
    (copied (line_drawn b args.l) args.out.now args.at 32 (omega arith) (omega arith) (rw all at loop.invariant.1)) in
    rw whole at (put_copied (line_drawn b args.l) args.out.now args.at 33 (omega arith) (sym whole) drawn)
