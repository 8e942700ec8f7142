-- `drawn` reads the board, then draws the list.
use mathlib.Core.Path.{refl}
use Rattle.cidrask.specs.Laws.{drawn_unread, drawn_read, draw_second}
use Rattle.cidrask.proofs.drawn.Goals as goal

pub returns-in-Ok : goal.returns-in-Ok
returns-in-Ok c =
    let draw-told = c.draw_told in
    let draw-bytes = c.draw_bytes in
    let args = c.args in record {
      drawn_as = drawn_read args.board.now args.list.now args.page.now draw-bytes.result c.read_bytes-after.ensures c.in-Ok.is
          draw-bytes.ensures draw-told.ensures;
      second_value = rw draw-told.ensures (draw_second draw-bytes.result);
    }

pub returns-in-Err : goal.returns-in-Err
returns-in-Err c =
    let args = c.args in
    let told = drawn_unread args.board.now args.list.now args.page.now c.in-Err.refusal c.read_bytes-after.ensures c.in-Err.is in
    record {
      drawn_as = rw (c.refused.ensures, c.number.ensures, c.place.ensures) told;
      second_value = rw c.refused.ensures refl;
    }
