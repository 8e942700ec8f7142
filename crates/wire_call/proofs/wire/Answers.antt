-- `wire` answers as the definition lays down.
use mathlib.Core.Path.{sym, ◌∙◌}
use Rattle.net_places.proofs.NetsLaws.{pairs-of}
use Rattle.session.specs.View.{session_of}
use Rattle.wire_call.specs.Laws.{wire-told, wire_unsound}
use Rattle.wire_call.proofs.wire.Goals as goal

pub returns-then-not-sound : goal.returns-then-not-sound
returns-then-not-sound c =
    let sound = c.sound in
    wire_unsound (session_of c.args.s) (sym sound.ensures.same ∙ c.if-not-sound.true)

pub edge_count-requires : goal.edge_count-requires
edge_count-requires c =
    let sound = c.sound in
    let S = sound.ensures.exact.0 (c.if-not-sound.false) in
    (S.within, S.convex)

pub returns : goal.returns
returns c =
    let sound = c.sound in
    let s = c.args.s in
    wire-told (session_of s) (sym sound.ensures.same ∙ c.if-not-sound.false) _ (pairs-of s.nets) _ _
    c.crossings.ensures c.edge_count.ensures
