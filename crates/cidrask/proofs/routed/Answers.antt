-- `routed` reads the board, then routes it.
use Rattle.cidrask.specs.Laws.{routed_unread, routed_read}
use Rattle.cidrask.proofs.routed.Goals as goal

pub returns-in-Ok : goal.returns-in-Ok
returns-in-Ok c = routed_read c.read_bytes-after.ensures c.in-Ok.is c.route_bytes.ensures c.route_told.ensures

pub returns-in-Err : goal.returns-in-Err
returns-in-Err c =
    rw (c.refused.ensures, c.number.ensures, c.place.ensures) (routed_unread c.in-Err.refusal c.read_bytes-after.ensures c.in-Err.is)
