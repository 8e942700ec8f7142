use Rattle.std.proofs.Common.{◌≡◌, true, take}
use Rattle.std.specs.List.{list_all}
use Rattle.board_block.specs.View.{block_of}
use Rattle.session_sound.specs.Room.{counted_at, held_room}
use Rattle.session_sound.proofs.is_addable.Given as goal

abbrev pub invariant-loop-place : goal.invariant-loop-place
invariant-loop-place l = list_all (held_room (block_of l.b) (counted_at l.counts)) (take l.place-index l.place-items) ≡ true
