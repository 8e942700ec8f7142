-- The definitions of the list machine, of writing and of the call `route` at work: each refusal with its place, and which of two comes first.
-- Assumes nothing.
use Rattle.std.specs.Prelude.{◌≡◌, refl, true, List, [], ◌∷◌, ◌++◌, map, ℕ, zero, suc, length, take, drop}
use Rattle.std.proofs.Math.Option.{Option, none, some}
use Rattle.board.specs.declared.Row.{Row}
use Rattle.net.specs.declared.Net.{Net}
use Rattle.net.specs.declared.Change.TheVariants.{Added, Withdrawn}
use Rattle.board_block.specs.Block.{plain}
use Rattle.session_rules.specs.Refusal.{Refusal}
use Rattle.session_rules.specs.Session.{nothing_kept, with_nets}
use Rattle.session_rules.specs.Machine.{Call, add, add_all, withdraw, take_back, Answer, accepted, refused, went_on, after, answers}
use Rattle.session_rules.specs.Sound.{sound?, call, bare, blank}
use Rattle.call_rules.specs.Writing.{write_board}
use Rattle.call_rules.specs.Route.{route_refused}
use Rattle.worked_cases.specs.Everything.{everything}
use Rattle.worked_cases.specs.Boards.{row, board, net, session, ring, why}

-- a refusal as one list, its number and place; nothing where there is none
abbrev pub refusal_list : Option Refusal → List ℕ
refusal_list none = []
refusal_list (some r) = r.number ∷ r.place

-- the same of an answer; of a list of nets, how many went on stands before it
abbrev pub answer_list : Answer → List ℕ
answer_list accepted = []
answer_list (refused r) = r.number ∷ r.place
answer_list (went_on k r) = k ∷ refusal_list r

-- one cell; each call meets the session that the calls before it left
calls : map answer_list (answers (bare (plain (board (row 0 1 ∷ [])))) (
    take_back
    -- 21 before 23 and 24; 0 and 65
    ∷ add (net 0 9 9 9 9) ∷ add (net 65 0 0 1 1)
    ∷ add (net 1 0 0 1 1)
    -- 22 before 23; 21 before 22 cannot be told apart, as no number that gets 21 is on a board
    ∷ add (net 1 9 9 1 1)
    -- 23 of the first terminal before the second, and before 24
    ∷ add (net 2 2 0 0 2) ∷ add (net 2 0 0 0 2) ∷ add (net 2 5 5 5 5)
    -- 24 before 25
    ∷ add (net 2 0 0 1 1) ∷ add (net 3 0 0 0 0)
    -- 25 of the first terminal before the second
    ∷ add (net 3 0 0 1 1) ∷ add (net 3 0 1 1 1)
    -- 26; 0 and 65 too
    ∷ withdraw 3 ∷ withdraw 0 ∷ withdraw 65 ∷ withdraw 1
    -- take back of both kinds, to the bottom
    ∷ take_back ∷ take_back ∷ take_back ∷ take_back ∷ []))
    ≡ (27 ∷ 0 ∷ [])
    ∷ (21 ∷ 0 ∷ []) ∷ (21 ∷ 0 ∷ [])
    ∷ []
    ∷ (22 ∷ 0 ∷ [])
    ∷ (23 ∷ 0 ∷ []) ∷ (23 ∷ 1 ∷ []) ∷ (23 ∷ 0 ∷ [])
    ∷ [] ∷ (24 ∷ 0 ∷ [])
    ∷ (25 ∷ 0 ∷ []) ∷ (25 ∷ 1 ∷ [])
    ∷ (26 ∷ 0 ∷ []) ∷ (26 ∷ 0 ∷ []) ∷ (26 ∷ 0 ∷ []) ∷ []
    ∷ [] ∷ [] ∷ [] ∷ (27 ∷ 0 ∷ []) ∷ []
unfolding everything
calls = refl

-- what add, withdraw and take back leave: a withdrawn net returns with its terminals, in its place
history : after (bare (plain (board (row 0 1 ∷ [])))) (add (net 2 0 0 1 1) ∷ add (net 1 1 0 0 1) ∷ withdraw 1 ∷ take_back ∷ [])
    ≡ record {
      block = plain (board (row 0 1 ∷ []));
      nets = net 1 1 0 0 1 ∷ net 2 0 0 1 1 ∷ [];
      pile = Added (net 1 1 0 0 1) ∷ Added (net 2 0 0 1 1) ∷ [];
      names = nothing_kept;
    }
unfolding everything
history = refl

-- the 65th change: 33 times a net is added and withdrawn; the pile holds 64, the last change first
abbrev up_and_down : ℕ → List Call
up_and_down zero = []
up_and_down (suc k) = add (net 1 0 0 1 1) ∷ withdraw 1 ∷ up_and_down k

long_pile : length (after (bare (plain (board (row 0 1 ∷ [])))) (up_and_down 33)).pile ≡ 64
unfolding everything
long_pile = refl

-- ── lists of nets (document 02, §1), on one cell ──
lists : map answer_list (answers (bare (plain (board (row 0 1 ∷ [])))) (
    -- "An empty list goes on with 0."
    add_all []
    -- a refusal in the middle: net 3 is not tried
    ∷ add_all (net 1 0 0 1 1 ∷ net 2 0 0 0 2 ∷ net 3 0 1 1 0 ∷ [])
    ∷ withdraw 3
    -- a refusal at the first; a net of the list takes the pins of a later one; a number twice in one list
    ∷ add_all (net 1 0 1 1 0 ∷ net 2 0 1 1 0 ∷ [])
    ∷ add_all (net 2 0 0 1 1 ∷ net 3 0 1 0 0 ∷ [])
    ∷ add_all (net 3 0 1 1 0 ∷ net 3 0 1 1 0 ∷ [])
    -- each net that went on is a change of its own
    ∷ take_back ∷ take_back ∷ take_back ∷ take_back ∷ []))
    ≡ (0 ∷ []) ∷ (1 ∷ 23 ∷ 1 ∷ []) ∷ (26 ∷ 0 ∷ []) ∷ (0 ∷ 22 ∷ 0 ∷ []) ∷ (1 ∷ 25 ∷ 1 ∷ []) ∷ (1 ∷ 22 ∷ 0 ∷ [])
    ∷ [] ∷ [] ∷ [] ∷ (27 ∷ 0 ∷ []) ∷ []
unfolding everything
lists = refl

-- what a list leaves that was refused at its third net: the two before it, each with its change
list_history : after (bare (plain (board (row 0 1 ∷ [])))) (add_all (net 4 0 0 1 1 ∷ net 3 1 0 0 1 ∷ net 0 0 0 1 1 ∷ net 2 0 0 1 1 ∷ []) ∷ [])
    ≡ record {
      block = plain (board (row 0 1 ∷ []));
      nets = net 3 1 0 0 1 ∷ net 4 0 0 1 1 ∷ [];
      pile = Added (net 3 1 0 0 1) ∷ Added (net 4 0 0 1 1) ∷ [];
      names = nothing_kept;
    }
unfolding everything
list_history = refl

-- a full pile loses its lowest change at every net: of 64 changes, a list of two takes the place of the lowest two, which are net 3's
abbrev crowded : List Call
crowded = add (net 3 0 0 1 1) ∷ withdraw 3 ∷ up_and_down 31

list_pile : let t = after (bare (plain (board (row 0 1 ∷ [])))) (crowded ++ (add_all (net 1 0 0 1 1 ∷ net 2 0 1 1 0 ∷ []) ∷ [])) in
    (length t.pile ≡ 64)
    × (take 3 t.pile ≡ Added (net 2 0 1 1 0) ∷ Added (net 1 0 0 1 1) ∷ Withdrawn (net 1 0 0 1 1) ∷ [])
    × (drop 63 t.pile ≡ Added (net 1 0 0 1 1) ∷ [])
unfolding everything
list_pile = (refl, refl, refl)

-- 20 for any list, the empty one too, and none went on
unsound_lists : map (λ (ns : List Net). answer_list (call (bare (plain (board []))) (add_all ns)).answer) ([] ∷ (net 1 0 0 1 1 ∷ []) ∷ [])
    ≡ (0 ∷ 20 ∷ 0 ∷ []) ∷ (0 ∷ 20 ∷ 0 ∷ []) ∷ []
unfolding everything
unsound_lists = refl

-- 20 before 21: a pile with an added net that is not on the board
unsound : answer_list (call (with_nets (bare (plain (board (row 0 1 ∷ [])))) [] (Added (net 1 0 0 1 1) ∷ [])) (add (net 0 0 0 1 1))).answer
    ≡ 20 ∷ 0 ∷ []
unfolding everything
unsound = refl

-- 20: case f as a session's board
unsound_board : answer_list (call (bare (plain (board (row 0 1 ∷ row 1 2 ∷ [])))) take_back).answer ≡ 20 ∷ 0 ∷ []
unfolding everything
unsound_board = refl

blank_sound : sound? blank ≡ true
unfolding everything
blank_sound = refl

-- ── writing: 20, then 18 ──
writing : why (write_board ring 223) ∷ why (write_board ring 224) ∷ why (write_board (bare (plain (board []))) 0) ∷ []
    ≡ (18 ∷ 0 ∷ []) ∷ [] ∷ (20 ∷ 0 ∷ []) ∷ []
unfolding everything
writing = refl

-- ── routing: 20, 31, 32, 33 in this order; 34, which is not counted, stands in crate worked_odd ──
-- so many cells in a row; with no nets, or with two terminals at each corner, each vertex of a line but the first and the last is odd
abbrev cells : ℕ → List Row
cells n = row 0 n ∷ []

-- nets from each corner at the left to one at the right, so that every column is overfull
abbrev across : ℕ → List Net
across n = net 1 0 0 0 n ∷ net 2 0 0 0 n ∷ net 3 1 0 1 n ∷ net 4 1 0 1 n ∷ []

routing : map refusal_list (
    -- 20 before 31
    route_refused (bare (plain (board []))) 0
    -- 31 before 32: 14 odd vertices, and one word less than 1, no nets and 25 edges (document 02, §11)
    ∷ route_refused (session (cells 8) []) 25
    -- 32 "only where more than 12 vertices are odd, naming the first" (document 02, §4): 14, and before 33; not 2, as in case e, nor 12
    ∷ route_refused (session (cells 8) []) 26
    ∷ route_refused (session (cells 8) (across 8)) 2049
    ∷ route_refused (session (cells 2) []) 2049
    ∷ route_refused (session (cells 7) []) 2049
    -- 33 with 12 odd vertices
    ∷ route_refused (session (cells 7) (across 7)) 2049
    -- 33: case c, where both cuts are overfull; the row comes first
    ∷ route_refused (session (row 0 1 ∷ []) (net 1 0 0 1 1 ∷ net 2 0 0 1 1 ∷ net 3 0 1 1 0 ∷ net 4 0 1 1 0 ∷ [])) 2049
    -- 33: a column alone is overfull
    ∷ route_refused (session (row 0 1 ∷ []) (net 1 0 0 0 1 ∷ net 2 0 0 0 1 ∷ net 3 1 0 1 1 ∷ net 4 1 0 1 1 ∷ [])) 2049
    ∷ route_refused ring 2049
    ∷ [])
    ≡ (20 ∷ 0 ∷ []) ∷ (31 ∷ 0 ∷ [])
    ∷ (32 ∷ 0 ∷ 1 ∷ []) ∷ (32 ∷ 0 ∷ 1 ∷ []) ∷ [] ∷ [] ∷ (33 ∷ 1 ∷ 0 ∷ [])
    ∷ (33 ∷ 0 ∷ 0 ∷ []) ∷ (33 ∷ 1 ∷ 0 ∷ []) ∷ [] ∷ []
unfolding everything
routing = refl
