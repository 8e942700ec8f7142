-- The refusal of reading, or the text for the session that is read.
use mathlib.Core.Path.{sym, ◌∙◌}
use Rattle.draw.specs.Laws.{unread_text, read_text}
use Rattle.draw.proofs.board_text.Goals as goal

pub returns-in-Err : goal.returns-in-Err
returns-in-Err c =
    let args = c.args in
    let told = unread_text args.board.now args.list.now c.in-Err.refusal c.read_bytes-after.ensures c.in-Err.is in
    (c.refused.ensures.0, c.refused.ensures.1 ∙ rw (c.from.ensures, c.number.ensures, c.place.ensures) (sym told))

pub returns-in-Ok : goal.returns-in-Ok
returns-in-Ok c =
    let session-text = c.session_text in
    let args = c.args in
    let told = read_text args.board.now args.list.now c.read_bytes-after.ensures c.in-Ok.is in
    (session-text.ensures.0, session-text.ensures.1 ∙ sym told)
