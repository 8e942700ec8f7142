-- `keep` keeps its promise.
use mathlib.Core.Path.{sym, ◌∙◌}
use Rattle.session.specs.Value.{keep_of}
use Rattle.session.proofs.Names.{keep_promise}
use Rattle.session.proofs.Session.keep.Goals as goal

pub returns-then-not-is_sound : goal.returns-then-not-is_sound
unfolding keep_of
returns-then-not-is_sound c =
    let sound = c.is_sound in
    let args = c.args in
    keep_promise args.self args.name _ (rw (sym sound.ensures.0.same ∙ c.if-not-is_sound.true) c.refused.ensures)

pub returns : goal.returns
unfolding keep_of
returns c =
    let sound = c.is_sound in
    let args = c.args in
    keep_promise args.self args.name _
    (rw (sym sound.ensures.0.same ∙ c.if-not-is_sound.false) c.keep_sound.ensures)
