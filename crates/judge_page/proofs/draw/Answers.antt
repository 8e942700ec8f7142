-- After i turns the first i bytes of the page stand.
use native.Mathlib.Omega.{arith}
use mathlib.Core.Path.{refl}
use Rattle.std.proofs.Common.{◌+◌, ◌*◌, length-take-le}
use Rattle.board.specs.View.{board_of}
use Rattle.board.specs.ViewLaws.{height_of}
use Rattle.judge_page.specs.Marked.{marked}
use Rattle.judge_page.specs.Laws.{byte_more, bytes-all}
use Rattle.judge_page.proofs.draw.Goals as goal

pub loop-i-init : goal.loop-i-init
loop-i-init c = refl

pub loop-i-preserved : goal.loop-i-preserved
loop-i-preserved c =
    let loop = c.loop-i in
    let args = c.args in
    let n = 64 * (2 * c.from.result + 1) in
    let part = length-take-le n args.out.now (omega arith) in
    byte_more (board_of args.b) (marked args.used.now) _ loop.i (omega (arith, height_of args.b, part)) c.loop-i-test.true
    loop.invariant c.byte_at.ensures

pub returns : goal.returns
returns c =
    let loop = c.loop-i in
    let args = c.args in
    let n = 64 * (2 * c.from.result + 1) in
    let part = length-take-le n args.out.now (omega arith) in
    bytes-all (board_of args.b) (marked args.used.now) args.out.now loop.i (omega (arith, height_of args.b))
    (omega arith) (omega (arith, part)) loop.invariant
