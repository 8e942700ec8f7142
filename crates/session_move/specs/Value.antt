-- Definitions only: what a move hands back, as a value of the code. Nothing is proved here: `move_promise` in Kept says that it is what the list
-- machine gives.
use Rattle.std.specs.Prelude.{Bool, cond, ◌&&◌, ℕ, ltb, Option, None, Some, Result, Ok, Err}
use Rattle.count.specs.Lists.{first}
use Rattle.board.specs.Board.{Board}
use Rattle.board.specs.Degree.{vertex?}
use Rattle.board.specs.Order.{reading_order}
use Rattle.board.specs.declared.Vertex.{Vertex}
use Rattle.board_block.specs.Book.{pins_by}
use Rattle.board_block.specs.View.{block_of, with_book}
use Rattle.board_block.specs.declared.Book.{Book}
use Rattle.board_block.specs.declared.Book.TheVariants.{Old, New}
use Rattle.cut_search.specs.Found.{found_vertex}
use Rattle.session_rules.specs.NewRule.{over_new?}
use Rattle.session_rules.specs.Sound.{sound?}
use Rattle.net_places.specs.Places.{nets_of}
use Rattle.session_pile.specs.Pile.{empty_pile}
use Rattle.session.specs.declared.Session.{Session}
use Rattle.session.specs.View.{session_of}
use Rattle.session.specs.Value.{after, with_places, fresh_of}
use Rattle.session.specs.declared.After.{After}
use Rattle.session_answers.specs.declared.MoveRefusal.{MoveRefusal}
use Rattle.session_answers.specs.declared.MoveRefusal.TheVariants.{Unsound, PinsMissing}

-- a vertex that has fewer pins by the new rule, before any are taken, than so many
abbrev pub over_with : Board → Vertex → (used : ℕ) → Bool
over_with b v used = vertex? b v && ltb (pins_by New b v) used

-- the nets of s on the bare block under the new rule
unfoldable pub moved : Session → Session
moved s = with_places (fresh_of (with_book s.block New)) s.nets empty_pile

abbrev pub move_found : Option Vertex → Session → After (Result Unit MoveRefusal)
move_found None s = after (Ok tt) (moved s)
move_found (Some v) s = after (Err (PinsMissing v)) s

unfoldable pub move_old : Session → After (Result Unit MoveRefusal)
move_old s = move_found (found_vertex (first (over_new? (block_of s.block) (nets_of s.nets)) reading_order)) s

abbrev pub move_by : Book → Session → After (Result Unit MoveRefusal)
move_by Old s = move_old s
move_by New s = after (Ok tt) s

unfoldable pub move_sound : Session → After (Result Unit MoveRefusal)
move_sound s = move_by s.block.book s

-- "Every call that takes a session refuses an unsound one first, with 20."
unfoldable pub move_of : Session → After (Result Unit MoveRefusal)
move_of s = cond (sound? (session_of s)) (move_sound s) (after (Err Unsound) s)
