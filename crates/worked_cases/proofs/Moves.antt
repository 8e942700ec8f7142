-- The definitions of a move to the new rule (document 02, §10) at work: what is refused and where, what goes over and what does not, a session
-- already under the new rule, and nets entered afresh.
-- Assumes nothing.
use Rattle.std.specs.Prelude.{◌≡◌, refl, true, false, List, [], ◌∷◌, map, ℕ, replicate}
use Rattle.std.proofs.Math.Option.{none, some}
use Rattle.board.specs.Board.{at}
use Rattle.board_block.specs.Block.{Block}
use Rattle.board_block.specs.declared.Book.{Book}
use Rattle.board_block.specs.declared.Book.TheVariants.{Old, New}
use Rattle.board_block.specs.declared.TakenPins.{TakenPins}
use Rattle.net.specs.declared.Net.{Net}
use Rattle.net.specs.declared.Change.TheVariants.{Added, Withdrawn}
use Rattle.session_rules.specs.Session.{Session, with_nets, with_names}
use Rattle.session_rules.specs.NewRule.{under_new, over_refusal}
use Rattle.session_rules.specs.Machine.{add, withdraw, take_back, keep, return_to, move_over, accept, refuse, after, answers}
use Rattle.session_rules.specs.OneByOne.{singly}
use Rattle.session_rules.specs.Sound.{sound?, call, bare}
use Rattle.worked_cases.specs.Everything.{everything}
use Rattle.worked_cases.specs.Boards.{row, board, net}
use Rattle.worked_cases.proofs.Sessions.{answer_list}

-- one cell, whose four vertices have two pins by the old rule and one by the new; two cells in a row, with one pin at (0,1) and at (1,1) by either
abbrev cell : Book → List TakenPins → Block
cell k ts = record { board = board (row 0 1 ∷ []); book = k; taken = ts }

abbrev pair : List TakenPins → Block
pair ts = record { board = board (row 0 2 ∷ []); book = Old; taken = ts }

abbrev pins : (l c k : ℕ) → TakenPins
pins l c k = record { vertex = at l c; count = k }

abbrev on : Block → List Net → Session
on b ns = with_nets (bare b) ns []

abbrev asked : List Session → List (List ℕ)
asked ss = map (λ (s : Session). answer_list (call s move_over).answer) ss

-- ── 39 ──
-- "more terminals and taken pins together than the new rule gives it pins before any are taken": two terminals, two taken pins, one of each, at a
-- corner
over : asked (
    on (cell Old []) (net 1 0 0 1 1 ∷ net 2 0 0 1 0 ∷ []) ∷ on (cell Old (pins 1 1 2 ∷ [])) [] ∷ on (cell Old (pins 0 1 1 ∷ [])) (net 1 0 1 1 0 ∷ [])
    ∷ on (cell Old (pins 0 0 1 ∷ [])) (net 1 1 0 0 1 ∷ net 2 1 0 1 1 ∷ []) ∷ [])
    ≡ (39 ∷ 0 ∷ 0 ∷ []) ∷ (39 ∷ 1 ∷ 1 ∷ []) ∷ (39 ∷ 0 ∷ 1 ∷ []) ∷ (39 ∷ 1 ∷ 0 ∷ []) ∷ []
unfolding everything
over = refl

-- one of either everywhere is not too many: taken pins are counted once, against the pins "before any are taken"; so at a straight side too
not_over : asked (
    on (cell Old (pins 0 0 1 ∷ pins 0 1 1 ∷ pins 1 0 1 ∷ pins 1 1 1 ∷ [])) [] ∷ on (cell Old []) (net 1 0 0 1 1 ∷ net 2 0 1 1 0 ∷ [])
    ∷ on (cell Old (pins 0 0 1 ∷ [])) (net 1 0 1 1 0 ∷ []) ∷ on (pair (pins 0 1 1 ∷ [])) (net 1 1 1 0 0 ∷ []) ∷ on (cell Old []) [] ∷ [])
    ≡ [] ∷ [] ∷ [] ∷ [] ∷ [] ∷ []
unfolding everything
not_over = refl

-- "the first vertex in reading order": of two on a line the left one, of two lines the upper one, also where that one stands further right
first : asked (
    on (pair (pins 0 0 2 ∷ pins 0 2 2 ∷ [])) [] ∷ on (pair (pins 0 2 2 ∷ pins 1 0 2 ∷ [])) [] ∷ on (pair (pins 1 0 2 ∷ pins 1 2 2 ∷ [])) []
    ∷ on (pair (pins 1 0 2 ∷ [])) (net 1 0 2 1 1 ∷ net 2 0 2 0 0 ∷ []) ∷ [])
    ≡ (39 ∷ 0 ∷ 0 ∷ []) ∷ (39 ∷ 0 ∷ 2 ∷ []) ∷ (39 ∷ 1 ∷ 0 ∷ []) ∷ (39 ∷ 0 ∷ 2 ∷ []) ∷ []
unfolding everything
first = refl

-- 20 first, under either book: seven names; three pins taken; by the new rule two taken at a corner
unsound : asked (
    with_names (on (cell Old (pins 0 0 2 ∷ [])) []) (replicate 7 none) ∷ on (cell Old (pins 0 0 3 ∷ [])) [] ∷ on (cell New (pins 0 0 2 ∷ [])) [] ∷ [])
    ≡ (20 ∷ 0 ∷ []) ∷ (20 ∷ 0 ∷ []) ∷ (20 ∷ 0 ∷ []) ∷ []
unfolding everything
unsound = refl

-- ── what goes over ──
-- nets 1 and 2 at four corners; net 3 was withdrawn from a pin of net 1, and a name holds it beside net 1: the new rule forbids both
abbrev busy : Book → Session
busy k = with_names (with_nets (bare (cell k [])) (net 1 0 0 1 1 ∷ net 2 0 1 1 0 ∷ []) (Withdrawn (net 3 0 0 1 0) ∷ []))
    (none ∷ some (net 1 0 0 1 1 ∷ net 3 0 0 1 0 ∷ []) ∷ replicate 6 none)

-- "with its nets. The pile is emptied and kept names are forgotten"
busy_moved : call (busy Old) move_over ≡ accept (on (cell New []) (net 1 0 0 1 1 ∷ net 2 0 1 1 0 ∷ []))
unfolding everything
busy_moved = refl

-- taken pins belong to the board, and stay
taken_moved : call (on (cell Old (pins 0 0 1 ∷ [])) (net 1 0 1 1 0 ∷ [])) move_over ≡ accept (on (cell New (pins 0 0 1 ∷ [])) (net 1 0 1 1 0 ∷ []))
unfolding everything
taken_moved = refl

-- sound before and after, while pile and names would be unsound under the new rule
busy_sound : map sound? (busy Old ∷ (call (busy Old) move_over).next ∷ busy New ∷ []) ≡ true ∷ true ∷ false ∷ []
unfolding everything
busy_sound = refl

-- a refused move changes nothing: the book, the pile and the names stay
abbrev stuck : Session
stuck = with_names (with_nets (bare (cell Old (pins 1 1 1 ∷ []))) (net 1 0 0 1 1 ∷ []) (Added (net 1 0 0 1 1) ∷ [])) (some [] ∷ replicate 7 none)

stuck_stays : call stuck move_over ≡ refuse (over_refusal (at 1 1)) stuck
unfolding everything
stuck_stays = refl

-- "Moving a session already under the new rule changes nothing at all."
abbrev new : Session
new = with_names (with_nets (bare (cell New (pins 1 0 1 ∷ []))) (net 1 0 0 1 1 ∷ []) (Added (net 1 0 0 1 1) ∷ [])) (some [] ∷ replicate 7 none)

new_stays : call new move_over ≡ accept new
unfolding everything
new_stays = refl

-- ── in a list of calls ──
-- moved: nothing to take back, nothing kept, and no second net at a corner; moved again: what was laid and kept since is still there
calls : map answer_list (answers (bare (cell Old [])) (
    add (net 1 0 0 1 1) ∷ keep 2 ∷ add (net 2 0 0 1 0) ∷ move_over ∷ take_back ∷ move_over
    ∷ take_back ∷ return_to 2 ∷ add (net 2 0 0 1 0) ∷ add (net 2 0 1 1 0) ∷ keep 2 ∷ withdraw 1 ∷ move_over ∷ take_back ∷ take_back ∷ return_to 2 ∷ []))
    ≡ [] ∷ [] ∷ [] ∷ (39 ∷ 0 ∷ 0 ∷ []) ∷ [] ∷ []
    ∷ (27 ∷ 0 ∷ []) ∷ (36 ∷ 0 ∷ []) ∷ (25 ∷ 0 ∷ []) ∷ [] ∷ [] ∷ [] ∷ [] ∷ [] ∷ [] ∷ [] ∷ []
unfolding everything
calls = refl

-- ── entered afresh ──
-- the nets of `busy`, one by one on the bare board under the new book, leave the same board and nets; those of the first case above do not all go on
entered : map answer_list (answers (bare (under_new (cell Old []))) (singly (busy Old).nets)) ≡ [] ∷ [] ∷ []
unfolding everything
entered = refl

abbrev afresh : Session
afresh = after (bare (under_new (cell Old []))) (singly (busy Old).nets)

entered_same : with_nets afresh afresh.nets [] ≡ (call (busy Old) move_over).next
unfolding everything
entered_same = refl

entered_refused : map answer_list (answers (bare (under_new (cell Old []))) (singly (net 1 0 0 1 1 ∷ net 2 0 0 1 0 ∷ []))) ≡ [] ∷ (25 ∷ 0 ∷ []) ∷ []
unfolding everything
entered_refused = refl
