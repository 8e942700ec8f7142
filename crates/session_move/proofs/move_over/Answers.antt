-- `move_over` keeps its promise.
use mathlib.Core.Path.{sym, ◌∙◌}
use Rattle.session_move.specs.Value.{move_of}
use Rattle.session_move.specs.Kept.{move_promise}
use Rattle.session_move.proofs.move_over.Goals as goal

pub returns-then-not-sound : goal.returns-then-not-sound
unfolding move_of
returns-then-not-sound c =
    let sound = c.sound in
    move_promise c.args.s _
    (rw (sym sound.ensures.same ∙ c.if-not-sound.true) c.refused.ensures)

pub returns : goal.returns
unfolding move_of
returns c =
    let sound = c.sound in
    move_promise c.args.s _
    (rw (sym sound.ensures.same ∙ c.if-not-sound.false) c.move_sound.ensures)
