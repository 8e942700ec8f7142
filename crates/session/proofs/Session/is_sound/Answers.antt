-- `is_sound` decides whether the session is sound, and tells the lengths of its arrays.
use mathlib.Core.Path.{◌∙◌}
use Rattle.count.specs.TruthLaws.{decides}
use Rattle.session_rules.specs.Sound.{sound?}
use Rattle.session_laws.proofs.Exact.{sound_exact}
use Rattle.board_block.specs.View.{block_of}
use Rattle.session_sound.specs.RoomLaws.{room_addable}
use Rattle.session.specs.View.{session_of}
use Rattle.session.proofs.Tested.{tested}
use Rattle.session.proofs.Session.is_sound.Goals as goal

pub returns : goal.returns
returns c =
    let fine = c.all_fine in
    let s = c.args.self in
    let addable = c.is_addable in
    let short = c.is_short in (
      decides _ (sound? (session_of s)) (sound_exact (session_of s))
          (tested s c.is_convex.result c.is_fine.result addable.result short.result c.lifts.result
          fine.result
          c.is_convex.ensures.same c.is_fine.ensures
          (λ within. addable.ensures.0 ∙ room_addable (block_of s.block) s.nets within addable.ensures.1)
          short.ensures.0 c.lifts.ensures fine.ensures.value.1 fine.ensures.names_len),
      record { nets64 = addable.ensures.1; pile64 = short.ensures.1 },
    )
