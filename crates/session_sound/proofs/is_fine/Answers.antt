-- `is_fine` asks whether the nets that are kept under a name could all be added; where nothing is kept, there is nothing to ask.
use Rattle.std.proofs.Common.{◌∙◌}
use Rattle.net_places.proofs.NetsLaws.{rising_of}
use Rattle.session_sound.specs.RoomLaws.{room_addable}
use Rattle.session_sound.proofs.is_fine.Goals as goal

pub returns-in-Some : goal.returns-in-Some
returns-in-Some c =
    let nets = c.in-Some.nets in
    let room = c.is_addable.ensures in (
      rw c.in-Some.is room.0,
      λ within. rw (c.in-Some.is, rising_of nets) (room.0 ∙ room_addable _ nets within room.1),
    )
