-- Definitions only: the page of a map of used edges, as the code makes it byte by byte. Nothing is proved here.
use Rattle.std.specs.Prelude.{Bool, cond, List, ℕ, ◌/◌, ◌%◌, ltb, get_or}
use Rattle.board.specs.Board.{Board, Edge}
use Rattle.call_rules.specs.Page.{line_feed, character_at}
use Rattle.judge_walk.specs.Slots.{slot}

-- does a map have a net at the slot of an edge?
abbrev pub marked : List ℕ → Edge → Bool
marked m e = ltb 0 (get_or m (slot e) 0)

-- the byte at index i of a page
abbrev pub byte_at : Board → (Edge → Bool) → ℕ → ℕ
byte_at b used i = cond (ltb (i % 64) 63) (character_at b used (i / 64) (i % 64)) line_feed
