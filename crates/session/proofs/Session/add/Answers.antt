-- `add` keeps its promise.
use mathlib.Core.Path.{sym, ◌∙◌}
use Rattle.session.specs.Value.{add_of}
use Rattle.session.proofs.Kept.{add_promise}
use Rattle.session.proofs.Session.add.Goals as goal

pub returns-then-not-is_sound : goal.returns-then-not-is_sound
unfolding add_of
returns-then-not-is_sound c =
    add_promise c.args.self c.args.net _
    c.is_sound.ensures.1
    (rw (sym c.is_sound.ensures.0.same ∙ c.if-not-is_sound.true) c.refused.ensures)

pub returns : goal.returns
unfolding add_of
returns c =
    add_promise c.args.self c.args.net _
    c.is_sound.ensures.1
    (rw (sym c.is_sound.ensures.0.same ∙ c.if-not-is_sound.false)
    c.add_sound.ensures)
