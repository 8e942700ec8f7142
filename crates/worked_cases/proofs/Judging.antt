-- The definitions of judging at work: each refusal with its place, and which of two comes first. The session is the ring where none is told;
-- and when two routings are alike; and knock-knees, by the rule and by the one before it.
-- Assumes nothing.
use Rattle.std.specs.Prelude.{◌≡◌, refl, Bool, true, false, List, [], ◌∷◌, map, ℕ, length, replicate}
use Rattle.count.specs.Lists.{select}
use Rattle.board.specs.declared.Direction.{Direction}
use Rattle.board.specs.declared.Direction.TheVariants.{Up, Right, Down, Left}
use Rattle.net.specs.declared.Net.{Net}
use Rattle.net.specs.declared.Change.TheVariants.{Withdrawn}
use Rattle.board.specs.Order.{reading_order}
use Rattle.words.specs.RoutingWord.{routing_words}
use Rattle.words.specs.Bytes.{bytes_of}
use Rattle.session_rules.specs.Session.{Session, with_nets, pairs}
use Rattle.call_rules.specs.Result.{Result, yes, and_then}
use Rattle.call_rules.specs.Report.{Report, knock_knees, knock_knee_of_nets}
use Rattle.call_rules.specs.Alike.{equally_many}
use Rattle.call_rules.specs.Judge.{judged, judge_words, compare_words, judge_bytes, compare_bytes}
use Rattle.worked_cases.specs.Everything.{everything}
use Rattle.worked_cases.specs.Boards.{row, net, session, ring, ring_output, why}
use Rattle.worked_cases.proofs.Table.{nets_i}

-- the ring's words are the routing words of its paths
ring-words : routing_words ring.nets ((Right ∷ []) ∷ (Down ∷ []) ∷ (Left ∷ []) ∷ (Up ∷ []) ∷ []) ≡ ring_output
unfolding everything
ring-words = refl

-- word lists, and the refusal that each gets
refusals : map (λ ws. why (judge_words ring ws)) (
    -- 41: no words
    []
    ∷  -- 42: another kind first
    (0x10000001 ∷ 0x54000001 ∷ 0x40200001 ∷ 0x58000001 ∷ 0x40300001 ∷ 0x5C000001 ∷ 0x40400001 ∷ 0x50000001 ∷ 0xE0000004 ∷ [])
    ∷  -- 42: a run word where a path word is due
    (0x54000001 ∷ 0x54000001 ∷ 0x40200001 ∷ 0x58000001 ∷ 0x40300001 ∷ 0x5C000001 ∷ 0x40400001 ∷ 0x50000001 ∷ 0xE0000004 ∷ [])
    ∷  -- 42: an unnamed bit of a path word
    (0x40100001 ∷ 0x54000001 ∷ 0x40200801 ∷ 0x58000001 ∷ 0x40300001 ∷ 0x5C000001 ∷ 0x40400001 ∷ 0x50000001 ∷ 0xE0000004 ∷ [])
    ∷  -- 42: an unnamed bit of a run word
    (0x40100001 ∷ 0x54000001 ∷ 0x40200001 ∷ 0x58000021 ∷ 0x40300001 ∷ 0x5C000001 ∷ 0x40400001 ∷ 0x50000001 ∷ 0xE0000004 ∷ [])
    ∷  -- 42: a path word where a run word is due
    (0x40100001 ∷ 0x40200001 ∷ 0x40200001 ∷ 0x58000001 ∷ 0x40300001 ∷ 0x5C000001 ∷ 0x40400001 ∷ 0x50000001 ∷ 0xE0000004 ∷ [])
    ∷  -- 42: the end word where a run word is due
    (0x40100001 ∷ 0xE0000004 ∷ 0x40200001 ∷ 0x58000001 ∷ 0x40300001 ∷ 0x5C000001 ∷ 0x40400001 ∷ 0x50000001 ∷ 0xE0000004 ∷ [])
    ∷  -- 42: length 0
    (0x40100001 ∷ 0x54000000 ∷ 0x40200001 ∷ 0x58000001 ∷ 0x40300001 ∷ 0x5C000001 ∷ 0x40400001 ∷ 0x50000001 ∷ 0xE0000004 ∷ [])
    ∷  -- 42: direction repeated
    (0x40100002 ∷ 0x54000001 ∷ 0x54000001 ∷ 0x40200001 ∷ 0x58000001 ∷ 0x40300001 ∷ 0x5C000001 ∷ 0x40400001 ∷ 0x50000001 ∷ 0xE0000004 ∷ [])
    ∷  -- a path may begin in the direction in which the one before ended: not 42; here the list is over early
    (0x40100001 ∷ 0x58000001 ∷ 0x40200001 ∷ 0x58000001 ∷ [])
    ∷  -- 42 before 43: an unnamed bit in a path word of another net
    (0x40200801 ∷ 0x54000001 ∷ 0x40200001 ∷ 0x58000001 ∷ 0x40300001 ∷ 0x5C000001 ∷ 0x40400001 ∷ 0x50000001 ∷ 0xE0000004 ∷ [])
    ∷  -- 43: path not of the next net
    (0x40200001 ∷ 0x54000001 ∷ 0x40200001 ∷ 0x58000001 ∷ 0x40300001 ∷ 0x5C000001 ∷ 0x40400001 ∷ 0x50000001 ∷ 0xE0000004 ∷ [])
    ∷  -- 43: end before all nets
    (0x40100001 ∷ 0x54000001 ∷ 0x40200001 ∷ 0x58000001 ∷ 0x40300001 ∷ 0x5C000001 ∷ 0xE0000003 ∷ [])
    ∷  -- 43: a path word where the end is due
    (0x40100001 ∷ 0x54000001 ∷ 0x40200001 ∷ 0x58000001 ∷ 0x40300001 ∷ 0x5C000001 ∷ 0x40400001 ∷ 0x50000001 ∷ 0x40500000 ∷ 0xE0000005 ∷ [])
    ∷  -- 43: end with another count
    (0x40100001 ∷ 0x54000001 ∷ 0x40200001 ∷ 0x58000001 ∷ 0x40300001 ∷ 0x5C000001 ∷ 0x40400001 ∷ 0x50000001 ∷ 0xE0000003 ∷ [])
    ∷  -- 43: list over early
    (0x40100001 ∷ 0x54000001 ∷ 0x40200001 ∷ 0x58000001 ∷ 0x40300001 ∷ 0x5C000001 ∷ 0x40400001 ∷ 0x50000001 ∷ [])
    ∷  -- 43: list over early within a path
    (0x40100001 ∷ 0x54000001 ∷ 0x40200001 ∷ 0x58000001 ∷ 0x40300001 ∷ 0x5C000001 ∷ 0x40400001 ∷ [])
    ∷  -- 43: word after the end, whatever it holds
    (0x40100001 ∷ 0x54000001 ∷ 0x40200001 ∷ 0x58000001 ∷ 0x40300001 ∷ 0x5C000001 ∷ 0x40400001 ∷ 0x50000001 ∷ 0xE0000004 ∷ 0x00000000 ∷ [])
    ∷  -- 43 before 44: the shape of the whole list first
    (0x40100001 ∷ 0x50000001 ∷ 0x40200001 ∷ 0x58000001 ∷ 0x40300001 ∷ 0x5C000001 ∷ 0x40400001 ∷ 0x50000001 ∷ [])
    ∷  -- 44: edge not on the board
    (0x40100001 ∷ 0x50000001 ∷ 0x40200001 ∷ 0x58000001 ∷ 0x40300001 ∷ 0x5C000001 ∷ 0x40400001 ∷ 0x50000001 ∷ 0xE0000004 ∷ [])
    ∷  -- 44: the second edge of a run is off the board
    (0x40100001 ∷ 0x54000002 ∷ 0x40200001 ∷ 0x58000001 ∷ 0x40300001 ∷ 0x5C000001 ∷ 0x40400001 ∷ 0x50000001 ∷ 0xE0000004 ∷ [])
    ∷  -- 45: edge used earlier by another path
    (0x40100001 ∷ 0x54000001 ∷ 0x40200002 ∷ 0x5C000001 ∷ 0x58000001 ∷ 0x40300001 ∷ 0x5C000001 ∷ 0x40400001 ∷ 0x50000001 ∷ 0xE0000004 ∷ [])
    ∷  -- 45: edge used earlier by the same path
    (0x40100003 ∷ 0x54000001 ∷ 0x5C000001 ∷ 0x54000001 ∷ 0x40200001 ∷ 0x58000001 ∷ 0x40300001 ∷ 0x5C000001 ∷ 0x40400001 ∷ 0x50000001
    ∷ 0xE0000004 ∷ [])
    ∷  -- 46: not at the second terminal
    (0x40100001 ∷ 0x58000001 ∷ 0x40200001 ∷ 0x58000001 ∷ 0x40300001 ∷ 0x5C000001 ∷ 0x40400001 ∷ 0x50000001 ∷ 0xE0000004 ∷ [])
    ∷  -- 46: no run at all
    (0x40100000 ∷ 0x40200001 ∷ 0x58000001 ∷ 0x40300001 ∷ 0x5C000001 ∷ 0x40400001 ∷ 0x50000001 ∷ 0xE0000004 ∷ [])
    ∷  -- 46 of a path before 44 of the next
    (0x40100001 ∷ 0x58000001 ∷ 0x40200001 ∷ 0x50000001 ∷ 0x40300001 ∷ 0x5C000001 ∷ 0x40400001 ∷ 0x50000001 ∷ 0xE0000004 ∷ [])
    ∷ [])
    ≡ (41 ∷ 0 ∷ [])
    ∷ (42 ∷ 0 ∷ [])
    ∷ (42 ∷ 0 ∷ [])
    ∷ (42 ∷ 2 ∷ [])
    ∷ (42 ∷ 3 ∷ [])
    ∷ (42 ∷ 1 ∷ [])
    ∷ (42 ∷ 1 ∷ [])
    ∷ (42 ∷ 1 ∷ [])
    ∷ (42 ∷ 2 ∷ [])
    ∷ (43 ∷ 4 ∷ [])
    ∷ (42 ∷ 0 ∷ [])
    ∷ (43 ∷ 0 ∷ [])
    ∷ (43 ∷ 6 ∷ [])
    ∷ (43 ∷ 8 ∷ [])
    ∷ (43 ∷ 8 ∷ [])
    ∷ (43 ∷ 8 ∷ [])
    ∷ (43 ∷ 7 ∷ [])
    ∷ (43 ∷ 9 ∷ [])
    ∷ (43 ∷ 8 ∷ [])
    ∷ (44 ∷ 1 ∷ [])
    ∷ (44 ∷ 1 ∷ [])
    ∷ (45 ∷ 3 ∷ [])
    ∷ (45 ∷ 2 ∷ [])
    ∷ (46 ∷ 0 ∷ [])
    ∷ (46 ∷ 0 ∷ [])
    ∷ (46 ∷ 0 ∷ [])
    ∷ []
unfolding everything
refusals = refl

-- 41: 2,050 words
too-many : why (judge_words ring (replicate 2050 0xE0000004)) ≡ 41 ∷ 0 ∷ []
unfolding everything
too-many = refl

-- 20 before 41, and before 10: the pile has a withdrawn net whose number is on the board
unsound : why (judge_words (with_nets ring ring.nets (Withdrawn (net 1 0 0 0 1) ∷ [])) []) ≡ 20 ∷ 0 ∷ []
unfolding everything
unsound = refl

unsound_bytes : why (judge_bytes (with_nets ring ring.nets (Withdrawn (net 1 0 0 0 1) ∷ [])) (1 ∷ [])) ≡ 20 ∷ 0 ∷ []
unfolding everything
unsound_bytes = refl

one_byte : why (judge_bytes ring (1 ∷ [])) ≡ 10 ∷ 0 ∷ []
unfolding everything
one_byte = refl

-- two lists: the first is judged first; its place stands after 0, that of the second after 1
compared : map (λ (ws : List ℕ). why (compare_words ring ring_output ws)) ([] ∷ ring_output ∷ []) ≡ (41 ∷ 1 ∷ 0 ∷ []) ∷ [] ∷ []
unfolding everything
compared = refl

compared_first : why (compare_words ring [] []) ≡ 41 ∷ 0 ∷ 0 ∷ []
unfolding everything
compared_first = refl

-- ── the same copper (document 02, §3) ──
-- the older sense, of two lists that pass
abbrev by_counts : Session → List ℕ → List ℕ → Result Bool
by_counts s vs ws = and_then (judged s vs) (λ dss. and_then (judged s ws) (λ ess. yes (equally_many dss ess)))

-- two cells, and two routings of one net, of 1 and of 3 edges: not alike in either sense; the first is alike to itself
abbrev upright : Session
upright = session (row 0 2 ∷ []) (net 1 0 1 1 1 ∷ [])

abbrev straight : List ℕ
straight = routing_words upright.nets ((Down ∷ []) ∷ [])

abbrev around : List ℕ
around = routing_words upright.nets ((Right ∷ Down ∷ Left ∷ []) ∷ [])

lengths : (compare_words upright straight around ≡ yes false) × (by_counts upright straight around ≡ yes false)
    × (compare_words upright straight straight ≡ yes true)
unfolding everything
lengths = (refl, refl, refl)

-- one cell, and a net from corner to corner round one side of it or the other: equal lengths, not alike
abbrev corners : Session
corners = session (row 0 1 ∷ []) (net 1 0 0 1 1 ∷ [])

abbrev over : List ℕ
over = routing_words corners.nets ((Right ∷ Down ∷ []) ∷ [])

abbrev under : List ℕ
under = routing_words corners.nets ((Down ∷ Right ∷ []) ∷ [])

other-side : (compare_words corners over under ≡ yes false) × (by_counts corners over under ≡ yes true)
unfolding everything
other-side = (refl, refl)

-- two such nets, and the two exchange their ways: equal lengths and the same edges in all, not alike
abbrev two_nets : Session
two_nets = session (row 0 1 ∷ []) (net 1 0 0 1 1 ∷ net 2 0 0 1 1 ∷ [])

abbrev first_over : List ℕ
first_over = routing_words two_nets.nets ((Right ∷ Down ∷ []) ∷ (Down ∷ Right ∷ []) ∷ [])

abbrev second_over : List ℕ
second_over = routing_words two_nets.nets ((Down ∷ Right ∷ []) ∷ (Right ∷ Down ∷ []) ∷ [])

exchanged : (compare_words two_nets first_over second_over ≡ yes false) × (by_counts two_nets first_over second_over ≡ yes true)
unfolding everything
exchanged = (refl, refl)

-- two cells, a net down the left side and one round a corner of the right cell: the first net alone has the same edges in both
abbrev sides : Session
sides = session (row 0 2 ∷ []) (net 1 0 0 1 0 ∷ net 2 0 2 1 1 ∷ [])

abbrev outside : List ℕ
outside = routing_words sides.nets ((Down ∷ []) ∷ (Down ∷ Left ∷ []) ∷ [])

abbrev inside : List ℕ
inside = routing_words sides.nets ((Down ∷ []) ∷ (Left ∷ Down ∷ []) ∷ [])

later_net : (compare_words sides outside inside ≡ yes false) × (by_counts sides outside inside ≡ yes true)
unfolding everything
later_net = (refl, refl)

-- two cells, and a net along the first that then goes round the second, one way or the other: alike
abbrev with_loop : Session
with_loop = session (row 0 2 ∷ []) (net 1 0 0 0 1 ∷ [])

either_way : compare_words with_loop (routing_words with_loop.nets ((Right ∷ Right ∷ Down ∷ Left ∷ Up ∷ []) ∷ []))
    (routing_words with_loop.nets ((Right ∷ Down ∷ Right ∷ Up ∷ Left ∷ []) ∷ [])) ≡ yes true
unfolding everything
either_way = refl

-- the same net with and without the loop: the second lacks edges of the first, and the other way about
loop_left_out : map (λ (dss : List (List Direction)). compare_words with_loop (routing_words with_loop.nets dss)
    (routing_words with_loop.nets ((Right ∷ []) ∷ []))) (((Right ∷ Right ∷ Down ∷ Left ∷ Up ∷ []) ∷ []) ∷ ((Right ∷ []) ∷ []) ∷ [])
    ≡ yes false ∷ yes true ∷ []
unfolding everything
loop_left_out = refl

loop_put_in : compare_words with_loop (routing_words with_loop.nets ((Right ∷ []) ∷ []))
    (routing_words with_loop.nets ((Right ∷ Right ∷ Down ∷ Left ∷ Up ∷ []) ∷ [])) ≡ yes false
unfolding everything
loop_put_in = refl

-- no nets: the end word alone, alike to itself
no-nets : compare_words (session (row 0 1 ∷ []) []) (0xE0000000 ∷ []) (0xE0000000 ∷ []) ≡ yes true
unfolding everything
no-nets = refl

-- 20 before 10 and 41
unsound_lists : (why (compare_words (with_nets ring ring.nets (Withdrawn (net 1 0 0 0 1) ∷ [])) [] []) ≡ 20 ∷ 0 ∷ [])
    × (why (compare_bytes (with_nets ring ring.nets (Withdrawn (net 1 0 0 0 1) ∷ [])) (1 ∷ []) []) ≡ 20 ∷ 0 ∷ [])
unfolding everything
unsound_lists = (refl, refl)

-- two lists of bytes, each in turn and whole: 41 of the first before 10 of the second; 10 of the second, with its place alone, once the first passes
compared_bytes : map (λ (bs : List ℕ). why (compare_bytes ring bs (1 ∷ []))) ([] ∷ (1 ∷ []) ∷ bytes_of ring_output ∷ [])
    ≡ (41 ∷ 0 ∷ 0 ∷ []) ∷ (10 ∷ 0 ∷ []) ∷ (10 ∷ 0 ∷ []) ∷ []
unfolding everything
compared_bytes = refl

compared_bytes_second : (why (compare_bytes ring (bytes_of ring_output) []) ≡ 41 ∷ 1 ∷ 0 ∷ [])
    × (why (compare_bytes ring (bytes_of ring_output) (1 ∷ 2 ∷ 3 ∷ 4 ∷ 5 ∷ 6 ∷ [])) ≡ 10 ∷ 0 ∷ [])
    × (compare_bytes ring (bytes_of ring_output) (bytes_of ring_output) ≡ yes true)
unfolding everything
compared_bytes_second = (refl, refl, refl)

-- ── knock-knees (document 02, §6) ──
-- DEFINITION: a path for each net, judged on a board of two rows from column 0 to c: the report, and the knock-knees by the rule before
abbrev reports : (c : ℕ) → List Net → List (List Direction) → Result Report × ℕ
reports c ns dss = (
  judge_words (session (row 0 c ∷ row 0 c ∷ []) ns) (routing_words ns dss),
  length (select (knock_knee_of_nets (pairs ns) dss) reading_order),
)

-- a net that passes (1,1) twice, turning there twice, alone: 1, where the rule before gave 0
turns_twice : reports 2 (net 1 0 1 1 2 ∷ []) ((Down ∷ Left ∷ Down ∷ Right ∷ Up ∷ Right ∷ []) ∷ [])
    ≡ (yes (record { edges = 6; turns = 5; knock_knees = 1 }), 0)
unfolding everything
turns_twice = refl

-- a net that passes (1,1) twice, straight on
goes_straight : reports 2 (net 1 0 1 1 2 ∷ []) ((Down ∷ Down ∷ Left ∷ Up ∷ Right ∷ Right ∷ []) ∷ [])
    ≡ (yes (record { edges = 6; turns = 3; knock_knees = 0 }), 0)
unfolding everything
goes_straight = refl

-- a net that turns there once, and no other does
turns_once : reports 2 (net 1 0 1 1 2 ∷ []) ((Down ∷ Right ∷ []) ∷ []) ≡ (yes (record { edges = 2; turns = 1; knock_knees = 0 }), 0)
unfolding everything
turns_once = refl

-- the nets of case i by way of (1,1), and by way of two corners
two-nets : (reports 2 nets_i ((Down ∷ Left ∷ []) ∷ (Left ∷ Down ∷ []) ∷ []) ≡ (yes (record { edges = 4; turns = 2; knock_knees = 1 }), 1))
    × (reports 2 nets_i ((Left ∷ Down ∷ []) ∷ (Down ∷ Left ∷ []) ∷ []) ≡ (yes (record { edges = 4; turns = 2; knock_knees = 0 }), 0))
unfolding everything
two-nets = (refl, refl)

-- net 1 turns twice at (1,1) and once at (1,2), where net 2 turns too: 2, where the rule before gave 1
both_kinds : reports 3 (net 1 0 1 2 2 ∷ net 2 0 2 1 3 ∷ []) ((Down ∷ Left ∷ Down ∷ Right ∷ Up ∷ Right ∷ Down ∷ []) ∷ (Down ∷ Right ∷ []) ∷ [])
    ≡ (yes (record { edges = 9; turns = 7; knock_knees = 2 }), 1)
unfolding everything
both_kinds = refl

-- of the definition alone: the last vertex of the largest board at which a path can turn twice is counted
last-vertex : knock_knees (pairs (net 1 31 30 30 31 ∷ [])) ((Up ∷ Left ∷ Up ∷ Right ∷ Down ∷ Right ∷ []) ∷ []) ≡ 1
unfolding everything
last-vertex = refl
