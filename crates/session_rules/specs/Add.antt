-- Definitions only: when a net may be added (document 01, refusals 21 to 25), by the pins that the board's book and the package leave (document 02,
-- §8, §9). Nothing is proved here.
use Rattle.std.specs.Prelude.{Bool, true, false, not, ◌&&◌, List, [], ◌∷◌, ℕ, leb}
use Rattle.std.proofs.Math.Option.{Option, none, some}
use Rattle.board.specs.Degree.{vertex?}
use Rattle.board.specs.declared.Vertex.{Vertex}
use Rattle.board_block.specs.Block.{Block, pins_of}
use Rattle.net.specs.Terminals.{same, terminals}
use Rattle.net.specs.declared.Net.{Net}
use Rattle.session_rules.specs.Refusal.{Refusal, Line, line, first_refusal}
use Rattle.session_rules.specs.Session.{pairs, holds}

-- "A net is a number from 1 to 64 .."
abbrev pub good_number : ℕ → Bool
good_number k = leb 1 k && leb k 64

-- the pins of v that the package has left are all used by terminals of the nets
abbrev pub full : Block → List Net → Vertex → Bool
full b ns v = leb (pins_of b v) (terminals (pairs ns) v)

-- the lines of the table for adding the net n to the nets ns on the block b
unfoldable pub add_lines : Block → List Net → Net → List Line
add_lines b ns n =
    line (not (good_number n.number)) 21 0
    ∷ line (holds n.number ns) 22 0
    ∷ line (not (vertex? b.board n.ends.first)) 23 0
    ∷ line (not (vertex? b.board n.ends.second)) 23 1
    ∷ line (same n.ends.first n.ends.second) 24 0
    ∷ line (full b ns n.ends.first) 25 0
    ∷ line (full b ns n.ends.second) 25 1
    ∷ []

abbrev pub is_none : Option Refusal → Bool
is_none none = true
is_none (some r) = false

unfoldable pub add_refused : Block → List Net → Net → Option Refusal
add_refused b ns n = first_refusal (add_lines b ns n)

-- add accepts the net
unfoldable pub accepts : Block → List Net → Net → Bool
accepts b ns n = is_none (add_refused b ns n)
