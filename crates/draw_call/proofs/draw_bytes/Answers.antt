-- `draw_bytes` draws as the definition does: what is asked first, the check of the bytes, and then the page by the map that the check leaves.
use native.Mathlib.Omega.{arith}
use mathlib.Core.Path.{◌∙◌}
use lib.ListN.{length}
use Rattle.std.proofs.lemmas.Result.{err_from_is_err_and}
use Rattle.board.specs.ViewLaws.{height_of}
use Rattle.session.specs.View.{session_of}
use Rattle.draw_call.specs.Laws.{refused_writes, drawn_writes, refused-some, refused_none, bytes-on, bytes_refused, bytes-passed}
use Rattle.draw_call.proofs.draw_bytes.Goals as goal

pub returns-in_err-ask_first : goal.returns-in_err-ask_first
returns-in_err-ask_first c =
    let p = err_from_is_err_and c.from_residual.result c.from_residual.ensures.1 in
    let s = session_of c.args.s in let room = length c.args.out.now in
    rw (p.1, p.2)
    (refused_writes c.args.out.now (bytes-on s c.args.bytes.now room ∙ refused-some s room c.ask_first.ensures c.in_err-ask_first.was _))

pub draw-requires : goal.draw-requires
draw-requires c =
    let (within, enough, rest) = refused_none (session_of c.args.s) (length c.args.out.now) c.ask_first.ensures c.in_ok-ask_first.was in
    record {
      count_bound = omega (arith, within.few, height_of c.args.s.block.board);
      in_bounds = enough;
    }

pub returns-in_err-check_bytes : goal.returns-in_err-check_bytes
returns-in_err-check_bytes c =
    let p = err_from_is_err_and c.from_residual-in_err-check_bytes.result c.from_residual-in_err-check_bytes.ensures.1 in
    let s = session_of c.args.s in let room = length c.args.out.now in
    let (within, enough, rest) = refused_none s room c.ask_first.ensures c.in_ok-ask_first.was in
    rw (p.1, p.2)
    (refused_writes c.args.out.now (bytes-on s c.args.bytes.now room
    ∙ (rest _ ∙ bytes_refused within c.args.s.nets c.args.bytes.now c.check_bytes.ensures c.in_err-check_bytes.field-0.0 c.in_err-check_bytes.was)))

pub returns : goal.returns
returns c =
    let s = session_of c.args.s in let room = length c.args.out.now in
    let (within, enough, rest) = refused_none s room c.ask_first.ensures c.in_ok-ask_first.was in
    drawn_writes (bytes-on s c.args.bytes.now room
    ∙ (rest _ ∙ bytes-passed within c.args.s.nets c.args.bytes.now c.check_bytes.ensures c.in_ok-check_bytes.was)) c.draw.ensures
