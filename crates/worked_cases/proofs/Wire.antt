-- The definitions of the wire to order (document 02, §11) at work: the two figures, the word limit, a list that meets all bounds and one between
-- them, and which buffers 31 lets pass.
-- Assumes nothing.
use Rattle.std.specs.Prelude.{◌≡◌, refl, List, [], ◌∷◌, map, ℕ, length, replicate}
use Rattle.board.specs.Board.{at}
use Rattle.board.specs.declared.Direction.{Direction}
use Rattle.board.specs.declared.Direction.TheVariants.{Up, Right, Down, Left}
use Rattle.board_edges.specs.EdgeCount.{edge_count}
use Rattle.board_block.specs.declared.Book.{Book}
use Rattle.board_block.specs.declared.Book.TheVariants.{Old, New}
use Rattle.board_block.specs.declared.TakenPins.{TakenPins}
use Rattle.session_rules.specs.Session.{Session, pairs}
use Rattle.session_rules.specs.Sound.{bare}
use Rattle.call_rules.specs.Result.{Result, no, yes}
use Rattle.call_rules.specs.Judge.{judged}
use Rattle.call_rules.specs.Report.{edges_used}
use Rattle.call_rules.specs.Route.{route_refused}
use Rattle.call_rules.specs.Wire.{crossing_sum, Figures, wire, word_limit}
use Rattle.worked_cases.specs.Everything.{everything}
use Rattle.worked_cases.specs.Boards.{row, board, net, session, ring, ring_output}
use Rattle.worked_cases.proofs.Sessions.{refusal_list}

-- the two numbers, or number and place of the refusal
abbrev told : Result Figures → List ℕ
told (yes f) = f.crossings ∷ f.edges ∷ []
told (no r) = r.number ∷ r.place

abbrev passed : Result (List (List Direction)) → List (List (List Direction))
passed (no r) = []
passed (yes dss) = dss ∷ []

-- the paths of a list that the judge passes, or none
abbrev paths_judged : Session → List ℕ → List (List (List Direction))
paths_judged s ws = passed (judged s ws)

abbrev cell : Book → List TakenPins → Session
cell k ts = bare (record { board = board (row 0 1 ∷ []); book = k; taken = ts })

abbrev pins : (l c k : ℕ) → TakenPins
pins l c k = record { vertex = at l c; count = k }

abbrev figures : List Session → List (List ℕ)
figures ss = map (λ (s : Session). told (wire s)) ss

-- ── the two figures ──
-- the ring: nets 2 and 4 cross the row, 1 and 3 the column; case b: both nets cross both; case c: four nets; case d: a net that crosses the row
-- alone; case e: none. A row of two cells has three edges down and four across
small : figures (
    ring ∷ session (row 0 1 ∷ []) (net 1 0 0 1 1 ∷ net 2 0 0 1 1 ∷ [])
    ∷ session (row 0 1 ∷ []) (net 1 0 0 1 1 ∷ net 2 0 0 1 1 ∷ net 3 0 1 1 0 ∷ net 4 0 1 1 0 ∷ [])
    ∷ session (row 0 2 ∷ []) (net 1 0 1 1 1 ∷ []) ∷ session (row 0 2 ∷ []) [] ∷ [])
    ≡ (4 ∷ 4 ∷ []) ∷ (4 ∷ 4 ∷ []) ∷ (8 ∷ 4 ∷ []) ∷ (1 ∷ 7 ∷ []) ∷ (0 ∷ 7 ∷ []) ∷ []
unfolding everything
small = refl

-- a net that crosses columns alone, and one along several rows and columns, counts each once; a line between two rows is counted once, and one that
-- the rows share in part as far as the wider reaches: case h has the edges 2 + 4 + 2 down and 1 + 3 + 3 + 1 across
uneven : figures (
    session (row 0 3 ∷ []) (net 1 0 0 0 3 ∷ []) ∷ session (row 0 2 ∷ row 0 2 ∷ []) (net 1 0 0 2 2 ∷ [])
    ∷ session (row 1 2 ∷ row 0 3 ∷ row 1 2 ∷ []) [] ∷ session (row 1 2 ∷ row 0 3 ∷ row 1 2 ∷ []) (net 1 0 1 3 2 ∷ net 2 2 3 1 0 ∷ []) ∷ [])
    ≡ (3 ∷ 10 ∷ []) ∷ (4 ∷ 12 ∷ []) ∷ (0 ∷ 16 ∷ []) ∷ (8 ∷ 16 ∷ []) ∷ []
unfolding everything
uneven = refl

-- the board of document 02, §4, which has no routing: figures are told of it all the same
no_routing : told (wire (session (row 2 3 ∷ row 1 4 ∷ row 0 5 ∷ row 1 4 ∷ row 2 3 ∷ [])
    (net 1 0 2 1 4 ∷ net 2 2 5 4 4 ∷ net 3 5 3 4 1 ∷ net 4 3 0 1 1 ∷ net 5 0 3 5 2 ∷ net 6 3 5 2 0 ∷ []))) ≡ 24 ∷ 36 ∷ []
unfolding everything
no_routing = refl

-- the largest board, with a net from its first vertex to its last: 62 rows and columns, and 1,984 edges; and one cell beside the last column
largest : (let b = board (replicate 31 (row 0 31)) in crossing_sum b (pairs (net 1 0 0 31 31 ∷ [])) ∷ edge_count b ∷ []) ≡ 62 ∷ 1984 ∷ []
unfolding everything
largest = refl

last_cell : told (wire (session (row 30 31 ∷ []) [])) ≡ 0 ∷ 4 ∷ []
unfolding everything
last_cell = refl

-- book and taken pins play no part, but that a pin which is not there makes the session unsound; an unsound session gets 20: no row, and a net on no
-- vertex
other : figures (
    cell New (pins 0 0 1 ∷ []) ∷ cell Old (pins 0 0 2 ∷ []) ∷ cell New (pins 0 0 2 ∷ [])
    ∷ session [] [] ∷ session (row 0 1 ∷ []) (net 1 0 0 2 2 ∷ []) ∷ [])
    ≡ (0 ∷ 4 ∷ []) ∷ (0 ∷ 4 ∷ []) ∷ (20 ∷ 0 ∷ []) ∷ (20 ∷ 0 ∷ []) ∷ (20 ∷ 0 ∷ []) ∷ []
unfolding everything
other = refl

-- ── the bounds, met ──
-- the ring's routing uses as many edges as nets cross, and as the board has, and its words are as many as the limit
ring_meets : edges_used ((Right ∷ []) ∷ (Down ∷ []) ∷ (Left ∷ []) ∷ (Up ∷ []) ∷ []) ∷ length ring_output ∷ word_limit ring ∷ [] ≡ 4 ∷ 9 ∷ 9 ∷ []
unfolding everything
ring_meets = refl

-- case d has a net from (0,1) to (1,1), over one row, on a board of 7 edges: round by the right its path uses 3 of them, and its list has 5 words
-- where the limit is 9
detour : map edges_used (paths_judged (session (row 0 2 ∷ []) (net 1 0 1 1 1 ∷ []))
    (0x40100003 ∷ 0x54000001 ∷ 0x58000001 ∷ 0x5C000001 ∷ 0xE0000001 ∷ [])) ≡ 3 ∷ []
unfolding everything
detour = refl

-- ── 31 ──
-- one word less than the limit, as many, one more: of the ring 9; of a board with no nets 1 and its edges
room : map refusal_list (
    route_refused ring 8 ∷ route_refused ring 9 ∷ route_refused ring 10
    ∷ route_refused (session (row 0 1 ∷ []) []) 4 ∷ route_refused (session (row 0 1 ∷ []) []) 5 ∷ [])
    ≡ (31 ∷ 0 ∷ []) ∷ [] ∷ [] ∷ (31 ∷ 0 ∷ []) ∷ [] ∷ []
unfolding everything
room = refl
