-- The definitions of trial layouts by name (document 02, §5) at work, on one cell: 35 and 36 with their places and order, a keep of no nets, what a
-- return does to nets, pile and names, and which names make a session unsound.
-- Assumes nothing.
use Rattle.std.specs.Prelude.{◌≡◌, refl, true, false, List, [], ◌∷◌, map, ℕ, replicate, set}
use Rattle.std.proofs.Math.Option.{none, some}
use Rattle.net.specs.declared.Net.{Net}
use Rattle.net.specs.declared.Change.TheVariants.{Added}
use Rattle.board_block.specs.Block.{Block, plain}
use Rattle.session_rules.specs.Session.{nothing_kept, Session, with_nets, with_names}
use Rattle.session_rules.specs.Machine.{Call, add, add_all, withdraw, take_back, keep, return_to, after, answers}
use Rattle.session_rules.specs.Sound.{sound?, call, bare}
use Rattle.call_rules.specs.Writing.{write_board}
use Rattle.call_rules.specs.Judge.{judge_words}
use Rattle.call_rules.specs.Route.{route_refused}
use Rattle.worked_cases.specs.Everything.{everything}
use Rattle.worked_cases.specs.Boards.{row, board, net, why}
use Rattle.worked_cases.proofs.Sessions.{refusal_list, answer_list}

abbrev cell : Block
cell = plain (board (row 0 1 ∷ []))

-- ── the answers ──
trials : map answer_list (answers (bare cell) (
    -- nothing is kept at first; "35 for a name above 7, then 36"
    return_to 0 ∷ return_to 7 ∷ return_to 8 ∷ keep 8 ∷ keep 255
    -- "a keep of no nets counts as kept"
    ∷ keep 0 ∷ add (net 1 0 0 1 1) ∷ keep 7 ∷ add (net 2 0 1 1 0)
    -- back to no nets: none is on the board, and the pile is empty
    ∷ return_to 0 ∷ withdraw 1 ∷ take_back
    -- a name goes on holding its nets, and no return lays a change on the pile
    ∷ return_to 7 ∷ take_back ∷ withdraw 1 ∷ return_to 7 ∷ withdraw 2 ∷ withdraw 1
    -- over what it held; a keep lays no change on the pile: the withdrawal is taken back, and then the pile is empty
    ∷ keep 7 ∷ take_back ∷ take_back ∷ withdraw 1 ∷ return_to 7 ∷ withdraw 1
    -- other names hold nothing
    ∷ return_to 1 ∷ []))
    ≡ (36 ∷ 0 ∷ []) ∷ (36 ∷ 0 ∷ []) ∷ (35 ∷ 0 ∷ []) ∷ (35 ∷ 0 ∷ []) ∷ (35 ∷ 0 ∷ [])
    ∷ [] ∷ [] ∷ [] ∷ []
    ∷ [] ∷ (26 ∷ 0 ∷ []) ∷ (27 ∷ 0 ∷ [])
    ∷ [] ∷ (27 ∷ 0 ∷ []) ∷ [] ∷ [] ∷ (26 ∷ 0 ∷ []) ∷ []
    ∷ [] ∷ [] ∷ (27 ∷ 0 ∷ []) ∷ [] ∷ [] ∷ (26 ∷ 0 ∷ [])
    ∷ (36 ∷ 0 ∷ []) ∷ []
unfolding everything
trials = refl

-- ── what they leave ──
-- nets 1 and 2 are kept under 1, a list's net 3 under 6; back at 1, the pile is empty, and the change laid after it is the first
trial_history : after (bare cell) (
    add (net 2 0 0 1 1) ∷ keep 1 ∷ add (net 1 1 0 0 1) ∷ keep 1 ∷ withdraw 1 ∷ withdraw 2
    ∷ add_all (net 3 0 0 1 1 ∷ []) ∷ keep 6 ∷ return_to 1 ∷ add (net 4 0 0 1 1) ∷ [])
    ≡ record {
      block = cell;
      nets = net 1 1 0 0 1 ∷ net 2 0 0 1 1 ∷ net 4 0 0 1 1 ∷ [];
      pile = Added (net 4 0 0 1 1) ∷ [];
      names = none ∷ some (net 1 1 0 0 1 ∷ net 2 0 0 1 1 ∷ []) ∷ none ∷ none ∷ none ∷ none ∷ some (net 3 0 0 1 1 ∷ []) ∷ none ∷ [];
    }
unfolding everything
trial_history = refl

-- ── which names make a session unsound ──
-- the bare cell with these nets under a name
abbrev under : ℕ → List Net → Session
under k ns = with_names (bare cell) (set nothing_kept k (some ns))

fine_names : sound? (under 7 []) ≡ true
unfolding everything
fine_names = refl

fine_nets : sound? (under 7 (net 1 0 0 1 1 ∷ net 2 0 0 1 1 ∷ [])) ≡ true
unfolding everything
fine_nets = refl

-- "could all be added to the bare board": the nets that are on the board take no pins from those under a name
fine_beside : sound? (with_nets (under 3 (net 1 0 0 1 1 ∷ net 2 0 0 1 1 ∷ [])) (net 1 0 0 1 1 ∷ net 2 0 0 1 1 ∷ []) []) ≡ true
unfolding everything
fine_beside = refl

-- a third terminal where there are two pins; a terminal that is no vertex; numbers that do not rise
crowded_name : sound? (under 7 (net 1 0 0 1 1 ∷ net 2 0 0 1 1 ∷ net 3 0 0 1 0 ∷ [])) ≡ false
unfolding everything
crowded_name = refl

outside_name : sound? (under 0 (net 1 0 0 1 2 ∷ [])) ≡ false
unfolding everything
outside_name = refl

falling_name : sound? (under 4 (net 2 0 0 1 1 ∷ net 1 0 0 1 1 ∷ [])) ≡ false
unfolding everything
falling_name = refl

-- seven names, or nine
too_few : sound? (with_names (bare cell) (replicate 7 none)) ≡ false
unfolding everything
too_few = refl

too-many : sound? (with_names (bare cell) (replicate 9 none)) ≡ false
unfolding everything
too-many = refl

-- 20 before 35 and 36, and for every other call, though the nets on the board are fine
abbrev bad : Session
bad = under 7 (net 1 0 0 1 2 ∷ [])

unsound_name : map (λ (c : Call). answer_list (call bad c).answer)
    (keep 8 ∷ keep 7 ∷ return_to 8 ∷ return_to 7 ∷ return_to 0 ∷ add (net 1 0 0 1 1) ∷ withdraw 1 ∷ take_back ∷ add_all [] ∷ [])
    ≡ (20 ∷ 0 ∷ []) ∷ (20 ∷ 0 ∷ []) ∷ (20 ∷ 0 ∷ []) ∷ (20 ∷ 0 ∷ []) ∷ (20 ∷ 0 ∷ [])
    ∷ (20 ∷ 0 ∷ []) ∷ (20 ∷ 0 ∷ []) ∷ (20 ∷ 0 ∷ []) ∷ (0 ∷ 20 ∷ 0 ∷ []) ∷ []
unfolding everything
unsound_name = refl

unsound_elsewhere : refusal_list (route_refused bad 2049) ∷ why (write_board bad 224) ∷ why (judge_words bad (0xE0000000 ∷ [])) ∷ []
    ≡ (20 ∷ 0 ∷ []) ∷ (20 ∷ 0 ∷ []) ∷ (20 ∷ 0 ∷ []) ∷ []
unfolding everything
unsound_elsewhere = refl
