-- The page that stands in the buffer, or the line of the refusal.
use lib.ListN.{length}
use Rattle.session.specs.View.{session_of}
use Rattle.call_rules.specs.Page.{draw_bytes}
use Rattle.draw.specs.Laws.{drawn_text}
use Rattle.draw.proofs.session_text.Goals as goal

pub returns-in-Ok : goal.returns-in-Ok
returns-in-Ok c =
    let x = draw_bytes (session_of c.args.s) c.args.list.now (length c.args.out.now) in
    rw (← c.requires) (drawn_text x (rw c.in-Ok.is at c.draw_bytes.ensures))
