-- `on_board` makes the call on the session of the board that is read, or tells its refusal.
use Rattle.board_reading.proofs.ReadAs.{read_refused, read_accepted}
use Rattle.cidrask.specs.Promise.OnBoard.{unread, read}
use Rattle.cidrask.proofs.on_board.Goals as goal

pub returns-in-Ok : goal.returns-in-Ok
returns-in-Ok g c = read (read_accepted c.read_bytes-after.ensures c.in-Ok.is) c.call.ensures

pub returns-in-Err : goal.returns-in-Err
returns-in-Err g c =
    rw (c.refused.ensures, c.number.ensures, c.place.ensures) (unread (read_refused c.read_bytes-after.ensures c.in-Err.refusal c.in-Err.is))
