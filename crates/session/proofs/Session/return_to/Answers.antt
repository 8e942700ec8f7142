-- `return_to` keeps its promise.
use mathlib.Core.Path.{sym, ◌∙◌}
use Rattle.session.specs.Value.{return_of}
use Rattle.session.proofs.Names.{return_promise}
use Rattle.session.proofs.Session.return_to.Goals as goal

pub returns-then-not-is_sound : goal.returns-then-not-is_sound
unfolding return_of
returns-then-not-is_sound c =
    let sound = c.is_sound in
    let args = c.args in
    return_promise args.self args.name _ (rw (sym sound.ensures.0.same ∙ c.if-not-is_sound.true) c.refused.ensures)

pub returns : goal.returns
unfolding return_of
returns c =
    let sound = c.is_sound in
    let args = c.args in
    return_promise args.self args.name _
    (rw (sym sound.ensures.0.same ∙ c.if-not-is_sound.false) c.return_sound.ensures)
