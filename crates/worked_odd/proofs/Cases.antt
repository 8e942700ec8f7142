-- Document 02, §4, "This board joins the proved cases": the statement `OddBoardsToBeProved` has document 01's table, a field for each thing said of
-- this board, two smaller boards that get 34, and case e, where the call's answer changes; `odd_boards_proved` proves it.
-- Assumes nothing.
use Rattle.std.specs.Prelude.{◌≡◌, refl, true, List, [], ◌∷◌, ◌++◌, map, ◌↔◌, ℕ, ◌≤◌, length}
use Rattle.std.proofs.Common.{ap, ◌∙◌, arith}
use Rattle.std.proofs.Math.Option.{none}
use Rattle.count.specs.Lists.{tally}
use Rattle.board.specs.Board.{at}
use Rattle.board.specs.declared.Direction.{Direction}
use Rattle.cut.specs.Cut.{overfull_cuts}
use Rattle.cut.specs.Odd.{odd_vertices}
use Rattle.cut.specs.declared.Cut.TheVariants as cut
use Rattle.routing_rules.specs.Routing.{Routing, Routable}
use Rattle.routing_rules.specs.Check.{routing_exact}
use Rattle.session_rules.specs.Refusal.{refusal}
use Rattle.session_rules.specs.Session.{Session, pairs}
use Rattle.session_rules.specs.Sound.{sound?}
use Rattle.session_laws.proofs.Exact.{sound_exact}
use Rattle.call_rules.specs.Result.{Result, no, yes}
use Rattle.call_rules.specs.Writing.{written_into}
use Rattle.call_rules.specs.Route.{route_room, odd_limit, route_refused, NoRouting, HandsBack, Routes, refused, given}
use Rattle.call_rules.proofs.RouteLaws.{passed, same_refusal, not_given}
use Rattle.call_rules.specs.Route as calls
use Rattle.corner.proofs.Paths.{routing_routable}
use Rattle.pairing.specs.Search.{open?, first_of, pair_up, helpers}
use Rattle.pairing.proofs.Exact.{routable-none}
use Rattle.route_call.specs.Sessions.{problem_of}
use Rattle.worked_cases.specs.Everything.{everything}
use Rattle.worked_cases.proofs.Table.{BoardsToBeProved, boards_proved}
use Rattle.worked_odd.specs.Revised.{rows, columns, saturated, revised_demand, failing}
use Rattle.worked_odd.specs.Boards.{diamond, six_nets, diamond_session, crossed_session, wider_session, two_cells, two_cells_session}

-- a call on the session with a long enough buffer gives 34 and leaves the buffer, and nothing else
abbrev pub Gives34 : Session → Type 0
Gives34 s = (before : List ℕ) → route_room s ≤ length before → (a : Result ℕ) (after : List ℕ)
    → Routes s before a after ↔ ((a ≡ no (refusal 34 0)) × (after ≡ before))

pub record OddBoardsToBeProved : Type 0 where
  -- document 01's table, which stands
  pub table : BoardsToBeProved
  -- the board of the request: 12 odd vertices
  pub odd : length (odd_vertices diamond (pairs six_nets)) ≡ 12
  -- "Every row and column passes that test"; rows 0 and 4 and columns 0 and 4 are saturated
  pub the_rows : rows diamond ≡ cut.Row 0 ∷ cut.Row 1 ∷ cut.Row 2 ∷ cut.Row 3 ∷ cut.Row 4 ∷ []
  pub the_columns : columns diamond ≡ cut.Column 0 ∷ cut.Column 1 ∷ cut.Column 2 ∷ cut.Column 3 ∷ cut.Column 4 ∷ []
  pub full_rows : saturated diamond (pairs six_nets) (rows diamond) ≡ cut.Row 0 ∷ cut.Row 4 ∷ []
  pub full_columns : saturated diamond (pairs six_nets) (columns diamond) ≡ cut.Column 0 ∷ cut.Column 4 ∷ []
  pub revised : failing diamond (pairs six_nets) ≡ []
  -- "yet no routing exists": no edge-disjoint paths join the nets
  pub not_joined : Routable diamond (pairs six_nets) → ⊥
  pub none_exists : NoRouting diamond_session
  -- no cut is overfull, and the call gives 34: "34 after 33, place 0, where no cut is overfull and no routing exists"
  pub roomy : overfull_cuts diamond (pairs six_nets) ≡ []
  pub answer : Gives34 diamond_session
  -- two nets across one cell: no cut is overfull, and yet no routing exists; here the test of 004 fails too, at the row and at the column
  pub crossed_revised : failing crossed_session.block.board (pairs crossed_session.nets) ≡ cut.Row 0 ∷ cut.Column 0 ∷ []
  pub crossed_answer : Gives34 crossed_session
  -- and across two cells, where the row, of 3 edges, has a demand of 2 and an odd part left of, between and right of the two saturated columns
  pub wider_revised : map (revised_demand wider_session.block.board (pairs wider_session.nets))
      (rows wider_session.block.board ++ columns wider_session.block.board) ≡ 5 ∷ 2 ∷ 2 ∷ []
  pub wider_fails : failing wider_session.block.board (pairs wider_session.nets) ≡ cut.Row 0 ∷ []
  pub wider_answer : Gives34 wider_session
  -- case e, 0-2 with no nets: two odd vertices, the first (0,1), as it was; the call now gives a routing with no path, the end word alone
  pub e_odd : odd_vertices two_cells [] ≡ at 0 1 ∷ at 1 1 ∷ []
  pub e_routing : Routing two_cells [] []
  pub e_answer : (before : List ℕ) → route_room two_cells_session ≤ length before → (a : Result ℕ) (after : List ℕ)
      → Routes two_cells_session before a after ↔ ((a ≡ yes 1) × (after ≡ written_into before (0xE0000000 ∷ [])))

-- ── what a call answers that 33 lets pass ──
module _ (s : Session) {before : List ℕ} (p : route_refused s (length before) ≡ none) where
  only-34 : NoRouting s → {a : Result ℕ} {after : List ℕ} → Routes s before a after → (a ≡ no (refusal 34 0)) × (after ≡ before)
  only-34 n (refused {r} w) = (ap no (same_refusal s (length before) w (calls.none_exists p n)), refl)
  only-34 n (given e H) = absurd (n H.paths H.routing)

  hands_back : (paths : List (List Direction)) → Routing s.block.board (pairs s.nets) paths → {a : Result ℕ} {after : List ℕ}
      → Routes s before a after → (n : ℕ) × (a ≡ yes n) × HandsBack s before after n
  hands_back paths R (refused w) = absurd (not_given s (length before) w p paths R)
  hands_back paths R (given {count = n} e H) = (n, refl, H)

-- a session with at most 12 odd vertices and no overfull cut, where the search finds no helper pairs
module _ (s : Session) (sound : sound? s ≡ true) (few : length (odd_vertices s.block.board (pairs s.nets)) ≤ odd_limit)
    (roomy : overfull_cuts s.block.board (pairs s.nets) ≡ []) (unpaired : helpers s.block.board (pairs s.nets) ≡ none) where
  no-paths : Routable s.block.board (pairs s.nets) → ⊥
  no-paths = (routable-none s.block.board (pairs s.nets) (problem_of s ((sound_exact s).0 sound))).1 unpaired

  no_routing : NoRouting s
  no_routing paths R = no-paths (routing_routable s.block.board (pairs s.nets) paths R)

  gives-34 : Gives34 s
  gives-34 before h a after = let p = passed s (length before) sound h few roomy in (
    only-34 s p no_routing,
    λ e. rw (e.0, e.1) (refused {r = refusal 34 0} (calls.none_exists p no_routing)),
  )

-- ── the board of the request, by computing ──
diamond_sound : sound? diamond_session ≡ true
unfolding everything
diamond_sound = refl

diamond_odd : length (odd_vertices diamond (pairs six_nets)) ≡ 12
unfolding everything
diamond_odd = refl

diamond_rows : rows diamond ≡ cut.Row 0 ∷ cut.Row 1 ∷ cut.Row 2 ∷ cut.Row 3 ∷ cut.Row 4 ∷ []
unfolding everything
diamond_rows = refl

diamond_columns : columns diamond ≡ cut.Column 0 ∷ cut.Column 1 ∷ cut.Column 2 ∷ cut.Column 3 ∷ cut.Column 4 ∷ []
unfolding everything
diamond_columns = refl

diamond_full_rows : saturated diamond (pairs six_nets) (rows diamond) ≡ cut.Row 0 ∷ cut.Row 4 ∷ []
unfolding everything
diamond_full_rows = refl

diamond_full_columns : saturated diamond (pairs six_nets) (columns diamond) ≡ cut.Column 0 ∷ cut.Column 4 ∷ []
unfolding everything
diamond_full_columns = refl

diamond_revised : failing diamond (pairs six_nets) ≡ []
unfolding everything tally
diamond_revised = refl

diamond_roomy : overfull_cuts diamond (pairs six_nets) ≡ []
unfolding everything
diamond_roomy = refl

diamond_few : length (odd_vertices diamond (pairs six_nets)) ≤ odd_limit
diamond_few = omega (arith, diamond_odd)

-- no pairing of the twelve leaves every cut its edges
diamond_unpaired : helpers diamond (pairs six_nets) ≡ none
unfolding everything open? first_of pair_up helpers
diamond_unpaired = refl

-- ── two nets across one cell, and across two ──
crossed_computed : (sound? crossed_session ≡ true) × (length (odd_vertices crossed_session.block.board (pairs crossed_session.nets)) ≡ 4)
    × (overfull_cuts crossed_session.block.board (pairs crossed_session.nets) ≡ [])
    × (helpers crossed_session.block.board (pairs crossed_session.nets) ≡ none)
unfolding everything open? first_of pair_up helpers
crossed_computed = (refl, refl, refl, refl)

crossed_fails : failing crossed_session.block.board (pairs crossed_session.nets) ≡ cut.Row 0 ∷ cut.Column 0 ∷ []
unfolding everything tally
crossed_fails = refl

wider_computed : (sound? wider_session ≡ true) × (length (odd_vertices wider_session.block.board (pairs wider_session.nets)) ≡ 6)
    × (overfull_cuts wider_session.block.board (pairs wider_session.nets) ≡ [])
    × (helpers wider_session.block.board (pairs wider_session.nets) ≡ none)
unfolding everything open? first_of pair_up helpers
wider_computed = (refl, refl, refl, refl)

wider_demands : map (revised_demand wider_session.block.board (pairs wider_session.nets))
    (rows wider_session.block.board ++ columns wider_session.block.board) ≡ 5 ∷ 2 ∷ 2 ∷ []
unfolding everything tally
wider_demands = refl

wider_row_fails : failing wider_session.block.board (pairs wider_session.nets) ≡ cut.Row 0 ∷ []
unfolding everything tally
wider_row_fails = refl

-- ── case e ──
two_sound : sound? two_cells_session ≡ true
unfolding everything
two_sound = refl

two_odd : odd_vertices two_cells [] ≡ at 0 1 ∷ at 1 1 ∷ []
unfolding everything
two_odd = refl

two_roomy : overfull_cuts two_cells [] ≡ []
unfolding everything
two_roomy = refl

two_routing : Routing two_cells [] []
unfolding everything
two_routing = (routing_exact two_cells [] []).0 refl

two_answer : (before : List ℕ) → route_room two_cells_session ≤ length before → (a : Result ℕ) (after : List ℕ)
    → Routes two_cells_session before a after ↔ ((a ≡ yes 1) × (after ≡ written_into before (0xE0000000 ∷ [])))
unfolding everything
two_answer before h a after = let p = passed two_cells_session (length before) two_sound h (omega (arith, ap length two_odd)) two_roomy in (
  λ R. let k = hands_back two_cells_session p [] two_routing R in (k.1 ∙ ap yes k.2.counted, k.2.words),
  λ e. rw (e.0, e.1) (given p (record { paths = []; routing = two_routing; words = refl; counted = refl })),
)

pub odd_boards_proved : OddBoardsToBeProved
odd_boards_proved = record {
  table = boards_proved;
  odd = diamond_odd;
  the_rows = diamond_rows;
  the_columns = diamond_columns;
  full_rows = diamond_full_rows;
  full_columns = diamond_full_columns;
  revised = diamond_revised;
  not_joined = no-paths diamond_session diamond_sound diamond_few diamond_roomy diamond_unpaired;
  none_exists = no_routing diamond_session diamond_sound diamond_few diamond_roomy diamond_unpaired;
  roomy = diamond_roomy;
  answer = gives-34 diamond_session diamond_sound diamond_few diamond_roomy diamond_unpaired;
  crossed_revised = crossed_fails;
  crossed_answer = let c = crossed_computed in gives-34 crossed_session c.0 (omega (arith, c.1)) c.2 c.3;
  wider_revised = wider_demands;
  wider_fails = wider_row_fails;
  wider_answer = let c = wider_computed in gives-34 wider_session c.0 (omega (arith, c.1)) c.2 c.3;
  e_odd = two_odd;
  e_routing = two_routing;
  e_answer = two_answer;
}
