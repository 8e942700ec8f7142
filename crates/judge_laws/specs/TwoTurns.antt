-- At no vertex do more than two turns of a routing occur: each turn has two edges that end there, at most four do, and no edge is used twice.
-- Where two do, all four are used, so that the vertex is one of those that the report counts.
-- Assumes that the paths are a routing; so it holds of every list that passes. What is counted assumes that the board is within the limits.
use Rattle.std.specs.Prelude.{◌≡◌, refl, true, cond, ◌↔◌, ℕ, ◌+◌, ◌*◌, ◌≤◌, ◌<◌}
use Rattle.std.proofs.Common.{ap, sym, ◌∙◌, inl, inr, arith, ltb-true}
use mathlib.Core.List.{List, [], ◌∷◌, ◌++◌, flatten}
use Rattle.count.specs.Truth.{one}
use Rattle.count.specs.TruthLaws.{bool}
use Rattle.board.specs.Board.{Board, Within, Edge, IsEdge}
use Rattle.board.specs.Path.{next, along, turn, Path}
use Rattle.board.specs.EdgesAt.{no_edge_in_place}
use Rattle.board.specs.declared.Vertex.{Vertex}
use Rattle.board.specs.declared.Direction.{Direction}
use Rattle.board.specs.declared.Direction.TheVariants.{Up, Right, Down, Left}
use Rattle.board_convex.proofs.Turns.{turn_case}
use Rattle.net.specs.Terminals.{same}
use Rattle.net.specs.Same.{same_true}
use Rattle.net.specs.declared.Pair.{Pair}
use Rattle.routing_rules.specs.Routing.{Joins, edges_from, trails, same_edge, uses, Routing}
use Rattle.routing_rules.specs.Check.{same_edge_exact}
use Rattle.session_rules.specs.Session.{Session, pairs}
use Rattle.call_rules.specs.Result.{yes}
use Rattle.call_rules.specs.Report.{turns_at, turns_of_each, turns_occurring, knock_knee, TwoTurns}
use Rattle.call_rules.proofs.ReportLaws.{occurring_no_pair, occurring_more, knock_knee_exact}
use Rattle.call_rules.specs.Judge.{judged}
use Rattle.board_edges.proofs.Spans.{edge_spans}
use Rattle.routing_laws.proofs.Used.{uses_append, all_edges, joins_edges}
use Rattle.judge_laws.specs.Exact.{passes_sound}
use Rattle.judge_laws.specs.Loops.{back, step_back}

-- ── the edges at a vertex ──
-- DEFINITION: how often the four edges at v are used in a list
abbrev uses_at : Vertex → List Edge → ℕ
uses_at v es = (uses (along Up v) es + uses (along Right v) es) + (uses (along Down v) es + uses (along Left v) es)

uses_join : (v : Vertex) (es fs : List Edge) → uses_at v (es ++ fs) ≡ uses_at v es + uses_at v fs
uses_join v es fs =
    omega (
      arith,
      uses_append (along Up v) es fs,
      uses_append (along Right v) es fs,
      uses_append (along Down v) es fs,
      uses_append (along Left v) es fs,
    )

-- the edge at v in any direction, used once: at least one use of the four
used_at : (v : Vertex) (d : Direction) → 1 ≤ uses_at v (along d v ∷ [])
unfolding uses
used_at v d = go d (ap one ((same_edge_exact (along d v) (along d v)).1 refl))
  where
    go : (d : Direction) → one (same_edge (along d v) (along d v)) ≡ 1 → 1 ≤ uses_at v (along d v ∷ [])
    go Up e = omega arith
    go Right e = omega arith
    go Down e = omega arith
    go Left e = omega arith

-- an edge of the board, used once: at least one use of the four for its end that is v
used_step : (b : Board) (d : Direction) (u v : Vertex) → IsEdge b (along d u) → one (same u v) + one (same (next d u) v) ≤ uses_at v (along d u ∷ [])
used_step b d u v h = elim (bool (same u v)) [
  | inl s ↦ elim (bool (same (next d u) v)) [
    | inl t ↦ absurd (no_edge_in_place b d u (same_true (next d u) v t ∙ sym (same_true u v s)) h)
    | inr t ↦ omega (arith, ap one s, ap one t, here s)
  ]
  | inr s ↦ elim (bool (same (next d u) v)) [
    | inl t ↦ omega (arith, ap one s, ap one t, there t)
    | inr t ↦ omega (arith, ap one s, ap one t)
  ]
]
  where
    here : same u v ≡ true → 1 ≤ uses_at v (along d u ∷ [])
    here s = rw (← same_true u v s) (used_at u d)

    there : same (next d u) v ≡ true → 1 ≤ uses_at v (along d u ∷ [])
    there t =
        let e : along d u ≡ along (back d) v = sym (step_back b d u h).1 ∙ ap (along (back d)) (same_true (next d u) v t) in
        rw e (used_at v (back d))

-- ── a path ──
turn_at : (u v : Vertex) (d e : Direction) → cond (same u v) (turn d e) 0 ≤ one (same u v)
turn_at u v d e = elim (bool (same u v)) [
  | inl s ↦ rw s (elim (turn_case d e) [
    | inl t ↦ omega (arith, t.0)
    | inr t ↦ omega (arith, t)
  ])
  | inr s ↦ rw s (omega arith)
]

-- a path: at least two uses of the four for each of its turns at v, and one more where it starts there
path_turns : (b : Board) (v u : Vertex) (d : Direction) (ds : List Direction) (w : Vertex) → Path b u (d ∷ ds) w
    → 2 * turns_at v u (d ∷ ds) + one (same u v) ≤ uses_at v (edges_from u (d ∷ ds))
unfolding turns_at edges_from
path_turns b v u d [] w p = omega (arith, used_step b d u v p.0)
path_turns b v u d (e ∷ ds) w p =
    omega (
      arith,
      uses_join v (along d u ∷ []) (edges_from (next d u) (e ∷ ds)),
      used_step b d u v p.0,
      turn_at (next d u) v d e,
      path_turns b v (next d u) e ds w p.1,
    )

turns_few : (b : Board) (v u : Vertex) (ds : List Direction) (w : Vertex) → Path b u ds w → 2 * turns_at v u ds ≤ uses_at v (edges_from u ds)
unfolding turns_at edges_from
turns_few b v u [] w p = omega arith
turns_few b v u (d ∷ ds) w p = omega (arith, path_turns b v u d ds w p)

-- ── all paths ──
all_few : (b : Board) (v : Vertex) (ps : List Pair) (dss : List (List Direction)) → Joins b ps dss
    → 2 * turns_occurring v ps dss ≤ uses_at v (flatten (trails ps dss))
unfolding trails flatten
all_few b v [] dss j = omega (arith, occurring_no_pair v dss)
all_few b v (p ∷ ps) [] j = absurd j
all_few b v (p ∷ ps) (ds ∷ dss) j =
    omega (
      arith,
      occurring_more v p ps ds dss,
      uses_join v (edges_from p.first ds) (flatten (trails ps dss)),
      turns_few b v p.first ds p.second j.0,
      all_few b v ps dss j.1,
    )

-- THE LAW: "At no vertex can there be more than two."
pub two_at_most : (b : Board) (ps : List Pair) (dss : List (List Direction)) → Routing b ps dss → (v : Vertex) → turns_occurring v ps dss ≤ 2
two_at_most b ps dss r v =
    omega (arith, all_few b v ps dss r.joins, r.once (along Up v), r.once (along Right v), r.once (along Down v), r.once (along Left v))

-- THE LAW: a knock-knee of a board within the limits is in lines and columns 0 to 31, the vertices that `knock_knees` counts
pub knock_knee_counted : (b : Board) → Within b → (ps : List Pair) (dss : List (List Direction)) → Routing b ps dss → (v : Vertex)
    → knock_knee ps dss v ≡ true → (v.line < 32) × (v.column < 32)
unfolding knock_knee
knock_knee_counted b w ps dss r v t =
    let es = flatten (trails ps dss) in
    let used : 0 < uses (along Down v) es =
    omega (
      arith,
      all_few b v ps dss r.joins,
      ltb-true 1 (turns_occurring v ps dss) t,
      r.once (along Up v),
      r.once (along Right v),
      r.once (along Left v),
    ) in
    elim (edge_spans b w (along Down v) (all_edges b es (joins_edges b ps dss r.joins) (along Down v) used)) [
      | inl a ↦ (omega (arith, a.line), omega (arith, a.column))
      | inr a ↦ (omega (arith, a.line), omega (arith, a.column))
    ]

-- THE LAW: all this of a list that passes; its knock-knees are the vertices "where two turns occur, whether of two paths or of one"
pub judged_two_turns : (s : Session) (ws : List ℕ) (dss : List (List Direction)) → judged s ws ≡ yes dss → (v : Vertex)
    → (turns_occurring v (pairs s.nets) dss ≤ 2)
    × ((knock_knee (pairs s.nets) dss v ≡ true) ↔ TwoTurns (turns_of_each v (pairs s.nets) dss))
    × (Within s.block.board → knock_knee (pairs s.nets) dss v ≡ true → (v.line < 32) × (v.column < 32))
judged_two_turns s ws dss e v =
    let ps = pairs s.nets in let r = (passes_sound s ws dss e).routing in
    let h = two_at_most s.block.board ps dss r v in
    (h, knock_knee_exact ps dss v h, λ w. knock_knee_counted s.block.board w ps dss r v)
