-- The definitions of the rule books (document 02, §9) at work: the pins of each kind of vertex, the refusals of words by the book that the end word
-- names, what is written back, soundness, and what adding, taking back and returning to a name count.
-- Assumes nothing.
use Rattle.std.specs.Prelude.{◌≡◌, refl, true, false, List, [], ◌∷◌, map, ℕ, replicate}
use Rattle.std.proofs.Math.Option.{none, some}
use Rattle.board.specs.Board.{at}
use Rattle.board_block.specs.Book.{book_number, pins_by}
use Rattle.board_block.specs.Block.{Block, under, pins_of}
use Rattle.board_block.specs.declared.Book.{Book}
use Rattle.board_block.specs.declared.Book.TheVariants.{Old, New}
use Rattle.board_block.specs.declared.TakenPins.{TakenPins}
use Rattle.net.specs.declared.Change.TheVariants.{Withdrawn}
use Rattle.session_rules.specs.Session.{Session, with_nets, with_names}
use Rattle.session_rules.specs.Machine.{Call, add, withdraw, take_back, keep, return_to, answers}
use Rattle.session_rules.specs.Sound.{sound?, bare, blank}
use Rattle.call_rules.specs.Result.{Result, no, yes}
use Rattle.call_rules.specs.Reading.{read_words}
use Rattle.call_rules.specs.Writing.{board_words}
use Rattle.call_rules.specs.Route.{route_refused}
use Rattle.worked_cases.specs.Everything.{everything}
use Rattle.worked_cases.specs.Boards.{row, board, net}
use Rattle.worked_cases.proofs.Sessions.{refusal_list, answer_list}

-- ── pins ──
-- under each book, before any are taken: "a vertex of degree 2 has one pin"; a straight side keeps its one, a concave corner and the inside have
-- none, and what is no vertex has none
abbrev kinds : Book → List (List ℕ)
kinds k =
    map (pins_by k (board (row 0 1 ∷ row 0 2 ∷ []))) (at 0 0 ∷ at 1 0 ∷ at 1 1 ∷ at 1 2 ∷ at 2 1 ∷ at 0 2 ∷ [])
    ∷ map (pins_by k (board (row 0 2 ∷ row 0 2 ∷ []))) (at 0 2 ∷ at 1 1 ∷ []) ∷ []

kinds_old : kinds Old ≡ (2 ∷ 1 ∷ 0 ∷ 2 ∷ 1 ∷ 0 ∷ []) ∷ (2 ∷ 0 ∷ []) ∷ []
unfolding everything
kinds_old = refl

kinds_new : kinds New ≡ (1 ∷ 1 ∷ 0 ∷ 1 ∷ 1 ∷ 0 ∷ []) ∷ (1 ∷ 0 ∷ []) ∷ []
unfolding everything
kinds_new = refl

-- ── words ──
-- accepted, with the book's number; or the refusal
abbrev told : Result Session → List ℕ
told (no r) = r.number ∷ r.place
told (yes s) = book_number s.block.book ∷ []

book_refusals : map (λ ws. told (read_words ws)) (
    -- 0 the old rule, 1 the new
    (0x10000001 ∷ 0xF0000100 ∷ []) ∷ (0x10000001 ∷ 0xF1000100 ∷ [])
    -- "Other values get 12": each of them; also where a bit of 1 is set
    ∷ (0x10000001 ∷ 0xF2000100 ∷ []) ∷ (0x10000001 ∷ 0xF3000100 ∷ []) ∷ (0x10000001 ∷ 0xF4000100 ∷ []) ∷ (0x10000001 ∷ 0xF5000100 ∷ [])
    ∷ (0x10000001 ∷ 0xF6000100 ∷ []) ∷ (0x10000001 ∷ 0xF7000100 ∷ []) ∷ (0x10000001 ∷ 0xF8000100 ∷ []) ∷ (0x10000001 ∷ 0xF9000100 ∷ [])
    ∷ (0x10000001 ∷ 0xFA000100 ∷ []) ∷ (0x10000001 ∷ 0xFB000100 ∷ []) ∷ (0x10000001 ∷ 0xFC000100 ∷ []) ∷ (0x10000001 ∷ 0xFD000100 ∷ [])
    ∷ (0x10000001 ∷ 0xFE000100 ∷ []) ∷ (0x10000001 ∷ 0xFF000100 ∷ [])
    -- 12 before 13 and before 15; 13, 15 and 16 under the new rule; the bits beside the book's have no name
    ∷ (0xF2000100 ∷ []) ∷ (0x10000001 ∷ 0xF1000100 ∷ 0xF2000100 ∷ []) ∷ (0x10000001 ∷ 0xF2000200 ∷ [])
    ∷ (0x10000001 ∷ 0xF1000100 ∷ 0xF1000100 ∷ []) ∷ (0x10000001 ∷ 0xF1000200 ∷ []) ∷ (0x10000001 ∷ 0x10000022 ∷ 0xF1000200 ∷ [])
    ∷ (0x10000001 ∷ 0xF1800100 ∷ []) ∷ (0x10000001 ∷ 0xF1010100 ∷ [])
    -- 38: two pins of a corner, by the old rule and by the new; one of it, and that of a straight side, by the new
    ∷ (0x10000001 ∷ 0x30000800 ∷ 0xF0000100 ∷ []) ∷ (0x10000001 ∷ 0x30000800 ∷ 0xF1000100 ∷ [])
    ∷ (0x10000001 ∷ 0x30000400 ∷ 0xF1000100 ∷ []) ∷ (0x10000001 ∷ 0x10000001 ∷ 0x30000420 ∷ 0xF1000200 ∷ [])
    -- 38 before the nets
    ∷ (0x10000001 ∷ 0x30000400 ∷ 0x30000801 ∷ 0x20000021 ∷ 0xF1000101 ∷ [])
    -- 25: two nets at a corner, by the old rule and by the new; one net there; one where its pin is taken; one and then two at a straight side
    ∷ (0x10000001 ∷ 0x20100021 ∷ 0x20200020 ∷ 0xF0000102 ∷ []) ∷ (0x10000001 ∷ 0x20100021 ∷ 0x20200020 ∷ 0xF1000102 ∷ [])
    ∷ (0x10000001 ∷ 0x20100021 ∷ 0xF1000101 ∷ []) ∷ (0x10000001 ∷ 0x30000400 ∷ 0x20100021 ∷ 0xF1000101 ∷ [])
    ∷ (0x10000001 ∷ 0x10000001 ∷ 0x20108021 ∷ 0xF1000201 ∷ [])
    ∷ (0x10000001 ∷ 0x10000001 ∷ 0x20108021 ∷ 0x20208001 ∷ 0xF1000202 ∷ [])
    ∷ [])
    ≡ (0 ∷ []) ∷ (1 ∷ [])
    ∷ (12 ∷ 1 ∷ []) ∷ (12 ∷ 1 ∷ []) ∷ (12 ∷ 1 ∷ []) ∷ (12 ∷ 1 ∷ []) ∷ (12 ∷ 1 ∷ []) ∷ (12 ∷ 1 ∷ []) ∷ (12 ∷ 1 ∷ [])
    ∷ (12 ∷ 1 ∷ []) ∷ (12 ∷ 1 ∷ []) ∷ (12 ∷ 1 ∷ []) ∷ (12 ∷ 1 ∷ []) ∷ (12 ∷ 1 ∷ []) ∷ (12 ∷ 1 ∷ []) ∷ (12 ∷ 1 ∷ [])
    ∷ (12 ∷ 0 ∷ []) ∷ (12 ∷ 2 ∷ []) ∷ (12 ∷ 1 ∷ [])
    ∷ (13 ∷ 2 ∷ []) ∷ (15 ∷ 1 ∷ []) ∷ (16 ∷ 0 ∷ [])
    ∷ (12 ∷ 1 ∷ []) ∷ (12 ∷ 1 ∷ [])
    ∷ (0 ∷ []) ∷ (38 ∷ 1 ∷ []) ∷ (1 ∷ []) ∷ (1 ∷ [])
    ∷ (38 ∷ 2 ∷ [])
    ∷ (0 ∷ []) ∷ (25 ∷ 2 ∷ []) ∷ (1 ∷ []) ∷ (25 ∷ 2 ∷ [])
    ∷ (1 ∷ []) ∷ (25 ∷ 3 ∷ [])
    ∷ []
unfolding everything
book_refusals = refl

-- ── sessions ──
abbrev cell : Book → List TakenPins → Block
cell k ts = record { board = board (row 0 1 ∷ []); book = k; taken = ts }

abbrev pins : (l c k : ℕ) → TakenPins
pins l c k = record { vertex = at l c; count = k }

-- "Written words carry the board's rule", and are read back under it
abbrev new_cell : Session
new_cell = with_nets (bare (cell New (pins 1 1 1 ∷ []))) (net 1 0 0 0 1 ∷ []) []

new_written : board_words new_cell ≡ 0x10000001 ∷ 0x30000421 ∷ 0x20100001 ∷ 0xF1000101 ∷ []
unfolding everything
new_written = refl

new_read : read_words (board_words new_cell) ≡ yes new_cell
unfolding everything
new_read = refl

-- "the blank session" stays "under the first book"
blank_book : blank.block.book ≡ Old
blank_book = refl

-- the pins that nets may use at a corner: of none, one and two taken, by the old rule and by the new
left : map (λ (b : Block). pins_of b (at 0 0)) (
    cell Old [] ∷ cell Old (pins 0 0 1 ∷ []) ∷ cell Old (pins 0 0 2 ∷ [])
    ∷ cell New [] ∷ cell New (pins 0 0 1 ∷ []) ∷ cell New (pins 0 0 2 ∷ []) ∷ [])
    ≡ 2 ∷ 1 ∷ 0 ∷ 1 ∷ 0 ∷ 0 ∷ []
unfolding everything
left = refl

-- soundness follows the book: two nets at a corner, two of its pins taken, a net on its one pin that is taken
soundness : map sound? (
    with_nets (bare (cell Old [])) (net 1 0 0 0 1 ∷ net 2 0 0 1 0 ∷ []) [] ∷ with_nets (bare (cell New [])) (net 1 0 0 0 1 ∷ net 2 0 0 1 0 ∷ []) []
    ∷ bare (cell Old (pins 0 0 2 ∷ [])) ∷ bare (cell New (pins 0 0 2 ∷ []))
    ∷ with_nets (bare (cell Old (pins 0 0 1 ∷ []))) (net 1 0 0 0 1 ∷ []) [] ∷ with_nets (bare (cell New (pins 0 0 1 ∷ []))) (net 1 0 0 0 1 ∷ []) []
    ∷ with_nets (bare (cell New [])) (net 1 0 0 0 1 ∷ []) [] ∷ [])
    ≡ true ∷ false ∷ true ∷ false ∷ true ∷ false ∷ true ∷ []
unfolding everything
soundness = refl

-- and so it does of what a name holds and of the pile: two nets at a corner are kept; a withdrawn net is to come back to one that another has taken
abbrev two_kept : Book → Session
two_kept k = with_names (bare (cell k [])) (some (net 1 0 0 0 1 ∷ net 2 0 0 1 0 ∷ []) ∷ replicate 7 none)

abbrev one_laid : Book → Session
one_laid k = with_nets (bare (cell k [])) (net 1 0 0 0 1 ∷ []) (Withdrawn (net 2 0 0 1 0) ∷ [])

kept_and_laid : map sound? (two_kept Old ∷ two_kept New ∷ one_laid Old ∷ one_laid New ∷ []) ≡ true ∷ false ∷ true ∷ false ∷ []
unfolding everything
kept_and_laid = refl

-- the same calls under both books: a second net at (0,0) goes on by the old rule alone, also once a withdrawn net is taken back there, and so does a
-- second one at (1,1) after a return
abbrev calls : List Call
calls =
    add (net 1 0 0 1 1) ∷ keep 3 ∷ add (net 2 0 0 1 0) ∷ withdraw 1 ∷ add (net 2 0 0 1 0) ∷ take_back ∷ take_back ∷ add (net 3 0 0 1 0)
    ∷ add (net 2 0 1 1 0) ∷ return_to 3 ∷ add (net 3 1 1 0 1) ∷ add (net 3 0 1 1 0) ∷ []

calls_old : map answer_list (answers (bare (under Old (board (row 0 1 ∷ [])))) calls)
    ≡ [] ∷ [] ∷ [] ∷ [] ∷ (22 ∷ 0 ∷ []) ∷ [] ∷ [] ∷ [] ∷ [] ∷ [] ∷ [] ∷ (22 ∷ 0 ∷ []) ∷ []
unfolding everything
calls_old = refl

calls_new : map answer_list (answers (bare (under New (board (row 0 1 ∷ [])))) calls)
    ≡ [] ∷ [] ∷ (25 ∷ 0 ∷ []) ∷ [] ∷ [] ∷ [] ∷ [] ∷ (25 ∷ 0 ∷ []) ∷ [] ∷ [] ∷ (25 ∷ 0 ∷ []) ∷ [] ∷ []
unfolding everything
calls_new = refl

-- no vertex becomes odd or even by the book: of seven cells in a row 12 vertices are odd under either, of eight 14; 20 where the new rule forbids
odd : map (λ (b : Block). refusal_list (route_refused (bare b) 2049)) (
    under Old (board (row 0 7 ∷ [])) ∷ under New (board (row 0 7 ∷ [])) ∷ under Old (board (row 0 8 ∷ [])) ∷ under New (board (row 0 8 ∷ []))
    ∷ cell New (pins 0 0 2 ∷ []) ∷ [])
    ≡ [] ∷ [] ∷ (32 ∷ 0 ∷ 1 ∷ []) ∷ (32 ∷ 0 ∷ 1 ∷ []) ∷ (20 ∷ 0 ∷ []) ∷ []
unfolding everything
odd = refl
