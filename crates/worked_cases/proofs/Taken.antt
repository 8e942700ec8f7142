-- The definitions of taken pins (document 02, §8) at work: the refusals of their words with place and order, what is written back, which taken pins
-- make a session unsound, and what adding, taking back and returning to a name count.
-- Assumes nothing.
use Rattle.std.specs.Prelude.{◌≡◌, refl, true, false, List, [], ◌∷◌, map, ℕ}
use Rattle.board.specs.Board.{at}
use Rattle.board.specs.declared.Row.{Row}
use Rattle.board_block.specs.Block.{Block, pins_of}
use Rattle.board_block.specs.declared.Book.TheVariants.{Old}
use Rattle.board_block.specs.declared.TakenPins.{TakenPins}
use Rattle.session_rules.specs.Session.{Session, with_nets}
use Rattle.session_rules.specs.Machine.{add, withdraw, take_back, keep, return_to, answers}
use Rattle.session_rules.specs.Sound.{sound?, call, bare}
use Rattle.call_rules.specs.Result.{yes}
use Rattle.call_rules.specs.Reading.{read_words}
use Rattle.call_rules.specs.Writing.{board_words}
use Rattle.call_rules.specs.Route.{route_refused}
use Rattle.worked_cases.specs.Everything.{everything}
use Rattle.worked_cases.specs.Boards.{row, board, net, why}
use Rattle.worked_cases.proofs.Sessions.{refusal_list, answer_list}

-- ── words ──
-- word lists on one cell, or on two in a column or a row, and the refusal that each gets
taken_refusals : map (λ ws. why (read_words ws)) (
    -- accepted: one pin of a corner; both, of all four; a later line in an earlier column; the pin of a straight side
    (0x10000001 ∷ 0x30000400 ∷ 0xF0000100 ∷ [])
    ∷ (0x10000001 ∷ 0x30000800 ∷ 0x30000801 ∷ 0x30000820 ∷ 0x30000821 ∷ 0xF0000100 ∷ [])
    ∷ (0x10000001 ∷ 0x30000401 ∷ 0x30000420 ∷ 0xF0000100 ∷ [])
    ∷ (0x10000001 ∷ 0x10000001 ∷ 0x30000420 ∷ 0xF0000200 ∷ [])
    -- "12 covers a count of 0 or 3", and before 13; an unnamed bit
    ∷ (0x10000001 ∷ 0x30000000 ∷ 0xF0000100 ∷ [])
    ∷ (0x10000001 ∷ 0x30000C00 ∷ 0xF0000100 ∷ [])
    ∷ (0x30000000 ∷ 0x10000001 ∷ 0xF0000100 ∷ [])
    ∷ (0x10000001 ∷ 0x30001400 ∷ 0xF0000100 ∷ [])
    -- "13 covers a kind 3 word first, after a net
    ∷ (0x30000400 ∷ 0x10000001 ∷ 0xF0000100 ∷ [])
    ∷ (0x10000001 ∷ 0x20100021 ∷ 0x30000401 ∷ 0xF0000101 ∷ [])
    -- or with a vertex not after the last one's in reading order,": the same, an earlier column, an earlier line
    ∷ (0x10000001 ∷ 0x30000400 ∷ 0x30000400 ∷ 0xF0000100 ∷ [])
    ∷ (0x10000001 ∷ 0x30000401 ∷ 0x30000400 ∷ 0xF0000100 ∷ [])
    ∷ (0x10000001 ∷ 0x30000420 ∷ 0x30000401 ∷ 0xF0000100 ∷ [])
    -- "and a row after one", 13 before 14; and after the end word
    ∷ (0x10000001 ∷ 0x30000400 ∷ 0x10000001 ∷ 0xF0000200 ∷ [])
    ∷ (0x10000001 ∷ 0x30000400 ∷ 0x10000021 ∷ 0xF0000200 ∷ [])
    ∷ (0x10000001 ∷ 0xF0000100 ∷ 0x30000400 ∷ [])
    -- 38: "the vertex is missing", also of the second word, whose index counts the rows
    ∷ (0x10000001 ∷ 0x30000402 ∷ 0xF0000100 ∷ [])
    ∷ (0x10000001 ∷ 0x10000001 ∷ 0x30000400 ∷ 0x300004A2 ∷ 0xF0000200 ∷ [])
    -- "or has fewer pins .. than the word takes": two of a straight side; one inside; one of a concave corner
    ∷ (0x10000001 ∷ 0x10000001 ∷ 0x30000820 ∷ 0xF0000200 ∷ [])
    ∷ (0x10000002 ∷ 0x10000002 ∷ 0x30000421 ∷ 0xF0000200 ∷ [])
    ∷ (0x10000001 ∷ 0x10000002 ∷ 0x30000421 ∷ 0xF0000200 ∷ [])
    -- 15 and 16 before 38; 38 before the nets; the first of two
    ∷ (0x10000001 ∷ 0x30000529 ∷ 0xF0000200 ∷ [])
    ∷ (0x10000001 ∷ 0x10000022 ∷ 0x30000529 ∷ 0xF0000200 ∷ [])
    ∷ (0x10000001 ∷ 0x30000529 ∷ 0x20000021 ∷ 0xF0000101 ∷ [])
    ∷ (0x10000001 ∷ 0x30000402 ∷ 0x30000403 ∷ 0xF0000100 ∷ [])
    -- 25: both pins of a corner are taken; one is, and a second net comes
    ∷ (0x10000001 ∷ 0x30000800 ∷ 0x20100021 ∷ 0xF0000101 ∷ [])
    ∷ (0x10000001 ∷ 0x30000400 ∷ 0x20100021 ∷ 0xF0000101 ∷ [])
    ∷ (0x10000001 ∷ 0x30000400 ∷ 0x20100021 ∷ 0x20200021 ∷ 0xF0000102 ∷ [])
    ∷ [])
    ≡ [] ∷ [] ∷ [] ∷ []
    ∷ (12 ∷ 1 ∷ []) ∷ (12 ∷ 1 ∷ []) ∷ (12 ∷ 0 ∷ []) ∷ (12 ∷ 1 ∷ [])
    ∷ (13 ∷ 0 ∷ []) ∷ (13 ∷ 2 ∷ [])
    ∷ (13 ∷ 2 ∷ []) ∷ (13 ∷ 2 ∷ []) ∷ (13 ∷ 2 ∷ [])
    ∷ (13 ∷ 2 ∷ []) ∷ (13 ∷ 2 ∷ []) ∷ (13 ∷ 2 ∷ [])
    ∷ (38 ∷ 1 ∷ []) ∷ (38 ∷ 3 ∷ [])
    ∷ (38 ∷ 2 ∷ []) ∷ (38 ∷ 2 ∷ []) ∷ (38 ∷ 2 ∷ [])
    ∷ (15 ∷ 2 ∷ []) ∷ (16 ∷ 0 ∷ []) ∷ (38 ∷ 1 ∷ []) ∷ (38 ∷ 1 ∷ [])
    ∷ (25 ∷ 2 ∷ []) ∷ [] ∷ (25 ∷ 3 ∷ []) ∷ []
unfolding everything
taken_refusals = refl

-- ── sessions ──
-- so many pins of (l, c)
abbrev pins : (l c k : ℕ) → TakenPins
pins l c k = record { vertex = at l c; count = k }

abbrev block : List Row → List TakenPins → Block
block rs ts = record { board = board rs; book = Old; taken = ts }

abbrev cell : List TakenPins → Block
cell ts = block (row 0 1 ∷ []) ts

-- "They are written too, and read back the same."
abbrev corners : Session
corners = with_nets (bare (cell (pins 0 0 1 ∷ pins 1 1 2 ∷ []))) (net 1 0 0 0 1 ∷ []) []

corners_written : board_words corners ≡ 0x10000001 ∷ 0x30000400 ∷ 0x30000821 ∷ 0x20100001 ∷ 0xF0000101 ∷ []
unfolding everything
corners_written = refl

corners_read : read_words (board_words corners) ≡ yes corners
unfolding everything
corners_read = refl

-- "A session is sound only if none of its taken pins would get 38"; in reading order, no vertex twice, one or two of each
soundness : map (λ (ts : List TakenPins). sound? (bare (cell ts))) (
    (pins 0 0 1 ∷ pins 0 1 2 ∷ pins 1 0 1 ∷ [])
    -- a missing vertex; three pins; none
    ∷ (pins 0 2 1 ∷ []) ∷ (pins 0 0 3 ∷ []) ∷ (pins 0 0 0 ∷ [])
    -- out of order; a vertex twice
    ∷ (pins 0 1 1 ∷ pins 0 0 1 ∷ []) ∷ (pins 0 0 1 ∷ pins 0 0 1 ∷ []) ∷ [])
    ≡ true ∷ false ∷ false ∷ false ∷ false ∷ false ∷ []
unfolding everything
soundness = refl

-- nor are nets on a taken pin sound
too_many_terminals : sound? (with_nets (bare (cell (pins 0 0 2 ∷ []))) (net 1 0 0 0 1 ∷ []) []) ≡ false
unfolding everything
too_many_terminals = refl

-- "A vertex's pins are now 4 minus its degree minus those taken", and never below 0
pin_counts : map (λ (ts : List TakenPins). pins_of (cell ts) (at 0 0)) ([] ∷ (pins 0 0 1 ∷ []) ∷ (pins 0 0 2 ∷ []) ∷ (pins 0 0 3 ∷ []) ∷ [])
    ≡ 2 ∷ 1 ∷ 0 ∷ 0 ∷ []
unfolding everything
pin_counts = refl

-- one pin of (0,0) is taken, both of (1,1): one net at the first, none at the second, also in take-backs and returns to a name
counted : map answer_list (answers (bare (cell (pins 0 0 1 ∷ pins 1 1 2 ∷ []))) (
    add (net 1 0 0 1 1) ∷ add (net 1 0 0 0 1) ∷ add (net 2 0 0 1 0) ∷ keep 3 ∷ withdraw 1 ∷ add (net 2 0 0 1 0)
    ∷ take_back ∷ take_back ∷ add (net 2 0 0 1 0) ∷ withdraw 1 ∷ add (net 2 0 0 1 0) ∷ return_to 3 ∷ add (net 3 0 0 1 0) ∷ []))
    ≡ (25 ∷ 1 ∷ []) ∷ [] ∷ (25 ∷ 0 ∷ []) ∷ [] ∷ [] ∷ []
    ∷ [] ∷ [] ∷ (25 ∷ 0 ∷ []) ∷ [] ∷ [] ∷ [] ∷ (25 ∷ 0 ∷ []) ∷ []
unfolding everything
counted = refl

-- 20 for taken pins that would get 38
unsound_pins : answer_list (call (bare (cell (pins 2 2 1 ∷ []))) take_back).answer
    ∷ refusal_list (route_refused (bare (cell (pins 2 2 1 ∷ []))) 2049) ∷ []
    ≡ (20 ∷ 0 ∷ []) ∷ (20 ∷ 0 ∷ []) ∷ []
unfolding everything
unsound_pins = refl

-- "Taken pins don't make a vertex odd or even": of seven cells in a row 12 vertices are odd, and the corners, which are even, stay so with one pin
-- taken of each; 14 of eight cells are odd still where a pin of each on the first line is taken
abbrev line : (c : ℕ) → TakenPins
line c = pins 0 c 1

twelve_odd : map (λ (b : Block). refusal_list (route_refused (bare b) 2049)) (
    block (row 0 7 ∷ []) [] ∷ block (row 0 7 ∷ []) (pins 0 0 1 ∷ pins 0 7 1 ∷ pins 1 0 1 ∷ pins 1 7 1 ∷ [])
    ∷ block (row 0 8 ∷ []) [] ∷ block (row 0 8 ∷ []) (map line (1 ∷ 2 ∷ 3 ∷ 4 ∷ 5 ∷ 6 ∷ 7 ∷ [])) ∷ [])
    ≡ [] ∷ [] ∷ (32 ∷ 0 ∷ 1 ∷ []) ∷ (32 ∷ 0 ∷ 1 ∷ []) ∷ []
unfolding everything
twelve_odd = refl
