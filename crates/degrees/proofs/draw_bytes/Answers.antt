-- The drawing of the board that is read, or the refusal of reading.
use mathlib.Core.Path.{sym, ◌∙◌}
use Rattle.degrees.specs.Laws.{refusal_drawn, board-drawn}
use Rattle.degrees.proofs.draw_bytes.Goals as goal

pub returns-in-Ok : goal.returns-in-Ok
returns-in-Ok c =
    let draw-board = c.draw_board in
    (draw-board.ensures.0, draw-board.ensures.1 ∙ sym (board-drawn c.args.bytes.now c.read_bytes-after.ensures c.in-Ok.is))

pub returns-in-Err : goal.returns-in-Err
returns-in-Err c =
    let told = refusal_drawn c.args.bytes.now c.in-Err.refusal c.read_bytes-after.ensures c.in-Err.is in
    (c.refused.ensures.0, c.refused.ensures.1 ∙ rw (c.from.ensures, c.number.ensures, c.place.ensures) (sym told))
