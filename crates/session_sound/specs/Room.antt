-- Definitions only: whether the nets of an array of places have room on a block, by how many terminals stand at each vertex; and the same of what is
-- kept under each name. Nothing is proved here: RoomLaws has the laws.
use Rattle.std.specs.Prelude.{Bool, true, false, not, cond, ◌&&◌, List, ℕ, ◌+◌, ◌*◌, leb, ltb, get_or, None, Some}
use Rattle.std.specs.List.{list_all}
use Rattle.board.specs.declared.Vertex.{Vertex}
use Rattle.board_block.specs.Block.{Block, pins_of}
use Rattle.net.specs.Terminals.{same, terminals}
use Rattle.net.specs.View.{Held, pairs_of}
use Rattle.session_names.specs.Names.{Stored}

-- the terminals that an array has counted at v
abbrev pub counted_at : List ℕ → Vertex → ℕ
counted_at a v = get_or a (v.line * 32 + v.column) 0

-- v has pins for n terminals; no terminal is counted, and so none has a pin, outside lines and columns 0 to 31
unfoldable pub room_at : Block → (n : ℕ) → Vertex → Bool
room_at b n v = cond (ltb v.line 32) (cond (ltb v.column 32) (leb n (pins_of b v)) false) false

-- the terminals that a place holds stand apart, each with pins for all that stand there
abbrev pub held_room : Block → (here : Vertex → ℕ) → Held → Bool
held_room b here None = true
held_room b here (Some p) =
    not (same p.first p.second) && (room_at b (here p.first) p.first && room_at b (here p.second) p.second)

unfoldable pub places_room : Block → (here : Vertex → ℕ) → List Held → Bool
places_room b here ps = list_all (held_room b here) ps

-- the nets of the places have room; on a board within the limits they could then all be added: `room_addable`
abbrev pub roomy : Block → List Held → Bool
roomy b ps = places_room b (terminals (pairs_of ps)) ps

-- the same of what is kept under a name, and under each
abbrev pub layout_roomy : Block → Stored → Bool
layout_roomy b None = true
layout_roomy b (Some ps) = roomy b ps

unfoldable pub all_roomy : Block → List Stored → Bool
all_roomy b ls = list_all (layout_roomy b) ls
