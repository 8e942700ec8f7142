-- `withdraw` keeps its promise.
use mathlib.Core.Path.{sym, ◌∙◌}
use Rattle.session.specs.Value.{withdraw_of}
use Rattle.session.proofs.Kept.{withdraw_promise}
use Rattle.session.proofs.Session.withdraw.Goals as goal

pub returns-then-not-is_sound : goal.returns-then-not-is_sound
unfolding withdraw_of
returns-then-not-is_sound c =
    withdraw_promise c.args.self c.args.number _
    c.is_sound.ensures.1
    (rw (sym c.is_sound.ensures.0.same ∙ c.if-not-is_sound.true) c.refused.ensures)

pub returns : goal.returns
unfolding withdraw_of
returns c =
    withdraw_promise c.args.self c.args.number _
    c.is_sound.ensures.1
    (rw (sym c.is_sound.ensures.0.same ∙ c.if-not-is_sound.false)
    c.withdraw_sound.ensures)
