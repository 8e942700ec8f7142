-- Definitions only: the value of the code's struct that reading hands back for a session. Nothing is proved here: ValueLaws has the laws.
use Rattle.std.specs.Prelude.{List, ◌++◌, map, suc, ◌-◌, length, replicate}
use Rattle.std.proofs.Math.Option.{Option, none, some}
use Rattle.count.specs.Lists.{up_to}
use Rattle.board.specs.Board.{no_row}
use Rattle.board.specs.declared.Row.{Row}
use Rattle.board.specs.declared.Board as code-board
use Rattle.board_block.specs.Block.{Block}
use Rattle.board_block.specs.View.{none_taken, with_all, plain_of}
use Rattle.board_block.specs.declared.Block as code-block
use Rattle.net.specs.View.{Held, nothing}
use Rattle.net.specs.declared.Net.{Net}
use Rattle.session_rules.specs.Session.{Session, net_of}
use Rattle.net_places.specs.Places.{holding}
use Rattle.session.specs.Value.{with_places, fresh_of, blank_board}
use Rattle.session.specs.declared.Session as code
use Rattle.call_rules.specs.Result.{Result, no, yes}

-- the rows in the first places of the array, rows of no cell in the others
abbrev pub board_value : List Row → code-board.Board
board_value rs = record { count = length rs; rows = rs ++ replicate (31 - length rs) no_row }

-- each of the 64 places holds the net of its number, if there is one
abbrev pub place_for : Option Net → Held
place_for none = nothing
place_for (some n) = holding n.ends

unfoldable pub places_for : List Net → List Held
places_for ns = map (λ i. place_for (net_of (suc i) ns)) (up_to 64)

abbrev pub block_value : Block → code-block.Block
block_value b = record { board = board_value b.board.rows; book = b.book; taken = with_all none_taken b.taken }

-- a fresh session on the block, with these nets
unfoldable pub value_for : Session → code.Session
value_for s = with_places (fresh_of (block_value s.block)) (places_for s.nets) (fresh_of (block_value s.block)).pile

-- what a reading hands back: "A refused reading gives the blank session"
abbrev pub read_value : Result Session → code.Session
read_value (no r) = fresh_of (plain_of blank_board)
read_value (yes s) = value_for s
