-- The definition of a page at work (document 02, §7): pages that can be held against the text beside them, and which refusal comes first.
-- Assumes nothing.
use Rattle.std.specs.Prelude.{◌≡◌, refl, ℕ, ◌-◌, length, replicate}
use mathlib.Core.List.{List, [], ◌∷◌, ◌++◌, flat_map}
use Rattle.board.specs.declared.Direction.{Direction}
use Rattle.board.specs.declared.Direction.TheVariants.{Up, Right, Down, Left}
use Rattle.net.specs.declared.Change.TheVariants.{Withdrawn}
use Rattle.words.specs.RoutingWord.{routing_words}
use Rattle.words.specs.Bytes.{bytes_of}
use Rattle.session_rules.specs.Session.{Session, with_nets}
use Rattle.call_rules.specs.Result.{Result, yes}
use Rattle.call_rules.specs.Writing.{count_of, buffer_after}
use Rattle.call_rules.specs.Page.{plus, dash, bar, space, draw_words, draw_bytes}
use Rattle.call_rules.specs.Editor.{editor_draw}
use Rattle.worked_cases.specs.Everything.{everything}
use Rattle.worked_cases.specs.Boards.{row, net, session, ring, ring_input, ring_output, why}
use Rattle.worked_cases.proofs.Table.{nets_i}

-- lines of text filled up to 63 characters with spaces, each with its line feed
abbrev lines : List (List ℕ) → List ℕ
lines ts = flat_map (λ t. t ++ (replicate (63 - length t) 32 ++ (10 ∷ []))) ts

-- the page of a path for each net
abbrev drawn : Session → List (List Direction) → Result (List ℕ)
drawn s dss = draw_words s (routing_words s.nets dss) 4032

-- the ring, every edge used, in bytes:
--     +-+
--     | |
--     +-+
abbrev ring_page : List ℕ
ring_page = lines ((43 ∷ 45 ∷ 43 ∷ []) ∷ (124 ∷ 32 ∷ 124 ∷ []) ∷ (43 ∷ 45 ∷ 43 ∷ []) ∷ [])

ring_drawn : draw_words ring ring_output 4032 ≡ yes ring_page
unfolding everything
ring_drawn = refl

-- two cells that begin at column 1, and a net down between them; an edge that no path uses leaves a space:
--       + + +
--         |
--       + + +
one_down : drawn (session (row 1 3 ∷ []) (net 1 0 2 1 2 ∷ [])) ((Down ∷ []) ∷ []) ≡ yes (lines (
    (space ∷ space ∷ plus ∷ space ∷ plus ∷ space ∷ plus ∷ [])
    ∷ (space ∷ space ∷ space ∷ space ∷ bar ∷ [])
    ∷ (space ∷ space ∷ plus ∷ space ∷ plus ∷ space ∷ plus ∷ [])
    ∷ []))
unfolding everything
one_down = refl

-- case i, a knock-knee at (1,1):
--     + + +
--       |
--     +-+-+
--       |
--     + + +
knock-knee : drawn (session (row 0 2 ∷ row 0 2 ∷ []) nets_i) ((Down ∷ Left ∷ []) ∷ (Left ∷ Down ∷ []) ∷ []) ≡ yes (lines (
    (plus ∷ space ∷ plus ∷ space ∷ plus ∷ [])
    ∷ (space ∷ space ∷ bar ∷ [])
    ∷ (plus ∷ dash ∷ plus ∷ dash ∷ plus ∷ [])
    ∷ (space ∷ space ∷ bar ∷ [])
    ∷ (plus ∷ space ∷ plus ∷ space ∷ plus ∷ [])
    ∷ []))
unfolding everything
knock-knee = refl

-- the board of case h, rows of 1, 3 and 1 cells, and a net along its second line and then down:
--       + +
--
--     +-+-+-+
--           |
--     + + + +
--
--       + +
rows_apart : drawn (session (row 1 2 ∷ row 0 3 ∷ row 1 2 ∷ []) (net 1 1 0 2 3 ∷ [])) ((Right ∷ Right ∷ Right ∷ Down ∷ []) ∷ []) ≡ yes (lines (
    (space ∷ space ∷ plus ∷ space ∷ plus ∷ [])
    ∷ []
    ∷ (plus ∷ dash ∷ plus ∷ dash ∷ plus ∷ dash ∷ plus ∷ [])
    ∷ (space ∷ space ∷ space ∷ space ∷ space ∷ space ∷ bar ∷ [])
    ∷ (plus ∷ space ∷ plus ∷ space ∷ plus ∷ space ∷ plus ∷ [])
    ∷ []
    ∷ (space ∷ space ∷ plus ∷ space ∷ plus ∷ [])
    ∷ []))
unfolding everything
rows_apart = refl

-- a row below that is wider, and a net along its bottom line to the last column, at character 62:
last-column : drawn (session (row 30 31 ∷ row 29 31 ∷ []) (net 1 2 29 2 31 ∷ [])) ((Right ∷ Right ∷ []) ∷ []) ≡ yes (lines (
    (replicate 60 space ++ (plus ∷ space ∷ plus ∷ []))
    ∷ []
    ∷ (replicate 58 space ++ (plus ∷ space ∷ plus ∷ space ∷ plus ∷ []))
    ∷ []
    ∷ (replicate 58 space ++ (plus ∷ dash ∷ plus ∷ dash ∷ plus ∷ []))
    ∷ []))
unfolding everything
last-column = refl

-- no nets: vertices alone
no-nets : drawn (session (row 0 1 ∷ []) []) [] ≡ yes (lines ((plus ∷ space ∷ plus ∷ []) ∷ [] ∷ (plus ∷ space ∷ plus ∷ []) ∷ []))
unfolding everything
no-nets = refl

-- two nets that exchange their ways use the same edges in all, those of the ring: the same page
exchanged : let s = session (row 0 1 ∷ []) (net 1 0 0 1 1 ∷ net 2 0 0 1 1 ∷ []) in
    (drawn s ((Right ∷ Down ∷ []) ∷ (Down ∷ Right ∷ []) ∷ []) ≡ yes ring_page)
    × (drawn s ((Down ∷ Right ∷ []) ∷ (Right ∷ Down ∷ []) ∷ []) ≡ yes ring_page)
unfolding everything
exchanged = (refl, refl)

-- and a loop may be walked either way:
--     +-+-+
--       | |
--     + +-+
either_way : let s = session (row 0 2 ∷ []) (net 1 0 0 0 1 ∷ []) in
    let p = lines (
    (plus ∷ dash ∷ plus ∷ dash ∷ plus ∷ [])
    ∷ (space ∷ space ∷ bar ∷ space ∷ bar ∷ [])
    ∷ (plus ∷ space ∷ plus ∷ dash ∷ plus ∷ [])
    ∷ []) in
    (drawn s ((Right ∷ Right ∷ Down ∷ Left ∷ Up ∷ []) ∷ []) ≡ yes p) × (drawn s ((Right ∷ Down ∷ Right ∷ Up ∷ Left ∷ []) ∷ []) ≡ yes p)
unfolding everything
either_way = (refl, refl)

-- ── refusals: 20, 37, 10, then the judge's ──
abbrev unsound : Session
unsound = with_nets ring ring.nets (Withdrawn (net 1 0 0 0 1) ∷ [])

-- 20 before 37 and before 41; 37 before 41, also where the page would fit; one byte more is enough
words-refused : (why (draw_words unsound [] 0) ≡ 20 ∷ 0 ∷ [])
    × (why (draw_words unsound [] 4032) ≡ 20 ∷ 0 ∷ [])
    × (why (draw_words ring [] 4031) ≡ 37 ∷ 0 ∷ [])
    × (why (draw_words ring ring_output 4031) ≡ 37 ∷ 0 ∷ [])
    × (why (draw_words ring [] 4032) ≡ 41 ∷ 0 ∷ [])
unfolding everything
words-refused = (refl, refl, refl, refl, refl)

-- of bytes 20 before 37, 37 before 10, 10 before 41, and the judge's place: a run that leaves the board
bytes_refused : (why (draw_bytes unsound (1 ∷ []) 0) ≡ 20 ∷ 0 ∷ [])
    × (why (draw_bytes ring (1 ∷ []) 192) ≡ 37 ∷ 0 ∷ [])
    × (why (draw_bytes ring (1 ∷ []) 4032) ≡ 10 ∷ 0 ∷ [])
    × (why (draw_bytes ring [] 4032) ≡ 41 ∷ 0 ∷ [])
    × (why (draw_bytes ring (bytes_of (routing_words ring.nets ((Up ∷ []) ∷ (Down ∷ []) ∷ (Left ∷ []) ∷ (Up ∷ []) ∷ []))) 4032) ≡ 44 ∷ 1 ∷ [])
unfolding everything
bytes_refused = (refl, refl, refl, refl, refl)

-- the bytes of the ring's words give the same page; its count of bytes is answered, and a longer buffer is untouched behind it; a refusal leaves all
bytes-drawn : (draw_bytes ring (bytes_of ring_output) 4032 ≡ yes ring_page)
    × (count_of (draw_words ring ring_output 4032) ≡ yes 192)
    × (buffer_after (replicate 192 0 ++ (7 ∷ 8 ∷ [])) (draw_words ring ring_output 4032) ≡ ring_page ++ (7 ∷ 8 ∷ []))
    × (buffer_after (7 ∷ 8 ∷ []) (draw_words ring ring_output 2) ≡ 7 ∷ 8 ∷ [])
unfolding everything
bytes-drawn = (refl, refl, refl, refl)

-- for C the board is read first: its 10 and 11 come before 37 and before the list's 10
for_c : (why (editor_draw (1 ∷ []) (1 ∷ []) 0) ≡ 10 ∷ 0 ∷ [])
    × (why (editor_draw [] (1 ∷ []) 0) ≡ 11 ∷ 0 ∷ [])
    × (why (editor_draw (bytes_of ring_input) (1 ∷ []) 0) ≡ 37 ∷ 0 ∷ [])
    × (why (editor_draw (bytes_of ring_input) (1 ∷ []) 4032) ≡ 10 ∷ 0 ∷ [])
    × (editor_draw (bytes_of ring_input) (bytes_of ring_output) 4032 ≡ yes ring_page)
unfolding everything
for_c = (refl, refl, refl, refl, refl)
