-- Definitions only: nets that keep within a board: in rising number, each on two different vertices, no vertex with more terminals than pins.
-- Nothing is proved here: FineLaws has the laws.
use Rattle.std.specs.Prelude.{◌≡◌, true, false, List, [], ◌∷◌, ◌≤◌}
use Rattle.board.specs.Degree.{vertex?}
use Rattle.board.specs.declared.Vertex.{Vertex}
use Rattle.board_block.specs.Block.{Block, pins_of}
use Rattle.net.specs.Terminals.{same, terminals}
use Rattle.net.specs.declared.Net.{Net}
use Rattle.session_rules.specs.Session.{pairs}
use Rattle.session_laws.specs.Rising.{From}

-- DEFINITION: a net by itself is one that may stand on the board
pub record Good (b : Block) (n : Net) : Type 0 where
  pub low : 1 ≤ n.number
  pub high : n.number ≤ 64
  pub first : vertex? b.board n.ends.first ≡ true
  pub second : vertex? b.board n.ends.second ≡ true
  pub apart : same n.ends.first n.ends.second ≡ false

-- DEFINITION: each of the nets is
abbrev pub AllGood : Block → List Net → Type 0
AllGood b [] = Unit {0}
AllGood b (n ∷ ns) = Good b n × AllGood b ns

-- DEFINITION: no vertex has more terminals than pins
abbrev pub Room : Block → List Net → Type 0
Room b ns = (v : Vertex) → terminals (pairs ns) v ≤ pins_of b v

pub record Fine (b : Block) (ns : List Net) : Type 0 where
  pub rising : From 0 ns
  pub good : AllGood b ns
  pub room : Room b ns
