-- Definitions only: what a move to the new rule does, sentence by sentence (document 02, §10). Nothing is proved here: that the list machine's call
-- does so is shown in crate session_laws, `moves`, `as_afresh` and `refused-exactly`.
use Rattle.std.specs.Prelude.{◌≡◌, true, List, [], ◌∷◌, ◌⊎◌, ◌≤◌, ◌<◌, length, replicate}
use Rattle.board.specs.Board.{IsVertex}
use Rattle.board.specs.Order.{VertexBefore}
use Rattle.board.specs.declared.Vertex.{Vertex}
use Rattle.board_block.specs.Block.{Block}
use Rattle.board_block.specs.Taken.{over_taken}
use Rattle.board_block.specs.declared.Book.TheVariants.{Old, New}
use Rattle.board_block.specs.declared.TakenPins.{TakenPins}
use Rattle.net.specs.declared.Net.{Net}
use Rattle.session_rules.specs.Refusal.{refusal}
use Rattle.session_rules.specs.Session.{nothing_kept, Session}
use Rattle.session_rules.specs.NewRule.{under_new, new_pins, pins_used, over_refusal}
use Rattle.session_rules.specs.Machine.{Answer, accepted, refused, after, answers}
use Rattle.session_rules.specs.OneByOne.{singly}
use Rattle.session_rules.specs.Sound.{Sound, bare}

-- "the first vertex in reading order that has more terminals and taken pins together than the new rule gives it pins before any are taken"
pub record FirstOver (b : Block) (ns : List Net) (v : Vertex) : Type 0 where
  pub vertex : IsVertex b.board v
  pub over : new_pins b v < pins_used b ns v
  pub before : (u : Vertex) → IsVertex b.board u → VertexBefore u v → pins_used b ns u ≤ new_pins b u

-- there is no such vertex
abbrev pub NoneOver : Block → List Net → Type 0
NoneOver b ns = (v : Vertex) → IsVertex b.board v → pins_used b ns v ≤ new_pins b v

-- a move, made on s, was answered a and left t
pub record Moves (s : Session) (a : Answer) (t : Session) : Type 0 where
  -- 20 first; nothing is changed
  pub unsound : (Sound s → ⊥) → (a ≡ refused (refusal 20 0)) × (t ≡ s)
  -- "Moving a session already under the new rule changes nothing at all."
  pub already : Sound s → s.block.book ≡ New → (a ≡ accepted) × (t ≡ s)
  -- "Refused: 39, with line and column of the first vertex"; nothing is changed
  pub refuses : Sound s → s.block.book ≡ Old → (v : Vertex) → FirstOver s.block s.nets v → (a ≡ refused (over_refusal v)) × (t ≡ s)
  -- "A call moves the open session over, with its nets",
  pub moves : Sound s → s.block.book ≡ Old → NoneOver s.block s.nets → (a ≡ accepted) × (t.block ≡ under_new s.block)
      × (t.nets ≡ s.nets)
      -- "The pile is emptied and kept names are forgotten"
      × (t.pile ≡ []) × (t.names ≡ nothing_kept)

-- ── "as if the nets had been entered afresh under the new book" ──
-- the nets, added one by one to the bare block, in a list of calls: none is refused,
abbrev pub NoneRefused : Block → List Net → Type 0
NoneRefused b ns = answers (bare b) (singly ns) ≡ replicate (length ns) accepted

-- and they leave the block and the nets of t
pub record Afresh (b : Block) (ns : List Net) (t : Session) : Type 0 where
  pub none_refused : NoneRefused b ns
  pub block : (after (bare b) (singly ns)).block ≡ t.block
  pub nets : (after (bare b) (singly ns)).nets ≡ t.nets

-- a taken pin of the block would get 38
abbrev pub OneOverTaken : Block → List TakenPins → Type 0
OneOverTaken b [] = ⊥
OneOverTaken b (t ∷ ts) = (over_taken b.book b.board t ≡ true) ⊎ OneOverTaken b ts

-- under the new book a taken pin would get 38, or one of the adds would be refused
abbrev pub RefusedAfresh : Block → List Net → Type 0
RefusedAfresh b ns = OneOverTaken (under_new b) b.taken ⊎ (NoneRefused (under_new b) ns → ⊥)
