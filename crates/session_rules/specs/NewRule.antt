-- Definitions only: which vertex keeps a session from moving to the new rule (document 02, §10). Nothing is proved here.
use Rattle.std.specs.Prelude.{Bool, ◌&&◌, List, [], ◌∷◌, ℕ, ◌+◌, ltb}
use Rattle.std.proofs.Math.Option.{Option, none, some}
use Rattle.count.specs.Lists.{first}
use Rattle.board.specs.Degree.{vertex?}
use Rattle.board.specs.Order.{reading_order}
use Rattle.board.specs.declared.Vertex.{Vertex}
use Rattle.board_block.specs.Block.{Block, taken_at}
use Rattle.board_block.specs.Book.{pins_by}
use Rattle.board_block.specs.declared.Book.TheVariants.{New}
use Rattle.net.specs.Terminals.{terminals}
use Rattle.net.specs.declared.Net.{Net}
use Rattle.session_rules.specs.Refusal.{Refusal}
use Rattle.session_rules.specs.Session.{pairs}

-- the block under the new rule; its board and its taken pins stay
abbrev pub under_new : Block → Block
under_new b = record { board = b.board; book = New; taken = b.taken }

-- "pins before any are taken", by the new rule
abbrev pub new_pins : Block → Vertex → ℕ
new_pins b v = pins_by New b.board v

-- "terminals and taken pins together"
abbrev pub pins_used : Block → List Net → Vertex → ℕ
pins_used b ns v = terminals (pairs ns) v + taken_at b.taken v

-- a vertex that "has more terminals and taken pins together than the new rule gives it pins before any are taken"
unfoldable pub over_new? : Block → List Net → Vertex → Bool
over_new? b ns v = vertex? b.board v && ltb (new_pins b v) (pins_used b ns v)

-- refusal 39, "with line and column"
abbrev pub over_refusal : Vertex → Refusal
over_refusal v = record { number = 39; place = v.line ∷ (v.column ∷ []) }

abbrev pub over_refused : Option Vertex → Option Refusal
over_refused none = none
over_refused (some v) = some (over_refusal v)

-- "of the first vertex in reading order"
unfoldable pub move_refused : Block → List Net → Option Refusal
move_refused b ns = over_refused (first (over_new? b ns) reading_order)
