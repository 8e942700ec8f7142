-- The text for the session that is read, or the refusal of reading.
use Rattle.route.specs.Laws.{refused_text, read_text}
use Rattle.route.proofs.board_text.Goals as goal

pub returns-in-Ok : goal.returns-in-Ok
returns-in-Ok c =
    let session-text = c.session_text in
    record {
      prefix_len = session-text.ensures.prefix_len;
      board_text = read_text c.read_bytes-after.ensures c.in-Ok.is session-text.ensures.route_text;
    }

pub returns-in-Err : goal.returns-in-Err
returns-in-Err c =
    record {
      prefix_len = c.refused.ensures.0;
      board_text = rw (c.refused.ensures.1, c.from.ensures, c.number.ensures, c.place.ensures)
          (refused_text c.in-Err.refusal c.read_bytes-after.ensures c.in-Err.is);
    }
