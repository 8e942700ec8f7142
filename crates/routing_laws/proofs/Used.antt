-- The edges of paths on a board are the board's; where none is used twice, they are at most as many as the board has.
-- Assumes that the board is within the limits, from "how many" on.
use Rattle.std.specs.Prelude.{◌≡◌, refl, ◌⊎◌, ℕ, suc, ◌+◌, ◌<◌, ◌≤◌, length}
use Rattle.std.proofs.Common.{ap, sym, inl, inr, arith, length-append}
use mathlib.Core.List.{List, [], ◌∷◌, ◌++◌, flatten}
use Rattle.count.specs.Truth.{one}
use Rattle.count.specs.TruthLaws.{bool, le_or_lt}
use Rattle.board.specs.Board.{Board, Within, Edge, IsEdge}
use Rattle.board.specs.Path.{next, along, Path}
use Rattle.board.specs.Degree.{edge?}
use Rattle.board.specs.Tests.{edge_exact}
use Rattle.board.specs.EdgesAt.{edge_eq}
use Rattle.board.specs.declared.Vertex.{Vertex}
use Rattle.board.specs.declared.Direction.{Direction}
use Rattle.board.specs.declared.Direction.TheVariants.{Right, Down}
use Rattle.board_pins.specs.Pins.{frame_sum}
use Rattle.board_pins.proofs.Frame.{frame_le, frame_add, frame_get}
use Rattle.board_edges.specs.EdgeCount.{edge_count}
use Rattle.board_edges.proofs.Spans.{Across, Downward, edge_spans}
use Rattle.board_edges.proofs.Framed.{edges_leading, edge_count_framed}
use Rattle.net.specs.declared.Pair.{Pair}
use Rattle.routing_rules.specs.Routing.{Joins, edges_from, trails, same_edge, uses, Routing}
use Rattle.routing_rules.specs.Check.{same_edge_exact}
use Rattle.call_rules.specs.Report.{edges_used}

-- ── the edges of paths ──
pub uses_append : (e : Edge) (xs ys : List Edge) → uses e (xs ++ ys) ≡ uses e xs + uses e ys
unfolding uses
uses_append e [] ys = omega arith
uses_append e (x ∷ xs) ys = omega (arith, uses_append e xs ys)

-- DEFINITION: each edge of the list is one of the board's
abbrev pub All : Board → List Edge → Type 0
All b [] = Unit {0}
All b (e ∷ es) = IsEdge b e × All b es

-- an edge that is in such a list is the board's
pub all_edges : (b : Board) (es : List Edge) → All b es → (e : Edge) → 0 < uses e es → IsEdge b e
unfolding uses
all_edges b [] a e h = absurd (omega arith)
all_edges b (f ∷ fs) a e h = elim (bool (same_edge e f)) [
  | inl t ↦ rw ((same_edge_exact e f).0 t) a.0
  | inr t ↦ all_edges b fs a.1 e (omega (arith, ap one t))
]

all_append : (b : Board) (xs ys : List Edge) → All b xs → All b ys → All b (xs ++ ys)
all_append b [] ys a c = c
all_append b (x ∷ xs) ys a c = (a.0, all_append b xs ys a.1 c)

path-edges : (b : Board) (u : Vertex) (ds : List Direction) (v : Vertex) → Path b u ds v → All b (edges_from u ds)
unfolding edges_from
path-edges b u [] v p = tt
path-edges b u (d ∷ ds) v p = (p.0, path-edges b (next d u) ds v p.1)

pub joins_edges : (b : Board) (ps : List Pair) (dss : List (List Direction)) → Joins b ps dss → All b (flatten (trails ps dss))
unfolding trails flatten
joins_edges b [] [] j = tt
joins_edges b [] (ds ∷ dss) j = absurd j
joins_edges b (p ∷ ps) [] j = absurd j
joins_edges b (p ∷ ps) (ds ∷ dss) j =
    all_append b (edges_from p.first ds) (flatten (trails ps dss)) (path-edges b p.first ds p.second j.0) (joins_edges b ps dss j.1)

pub length_edges : (u : Vertex) (ds : List Direction) → length (edges_from u ds) ≡ length ds
unfolding edges_from
length_edges u [] = refl
length_edges u (d ∷ ds) = ap suc (length_edges (next d u) ds)

-- as many as the report counts: "edges used"
pub used_edges : (b : Board) (ps : List Pair) (dss : List (List Direction)) → Joins b ps dss → length (flatten (trails ps dss)) ≡ edges_used dss
unfolding trails flatten edges_used
used_edges b [] [] j = refl
used_edges b [] (ds ∷ dss) j = absurd j
used_edges b (p ∷ ps) [] j = absurd j
used_edges b (p ∷ ps) (ds ∷ dss) j = omega (
  arith,
  length-append (edges_from p.first ds) (flatten (trails ps dss)),
  length_edges p.first ds,
  used_edges b ps dss j.1,
)

-- ── how many ──
-- DEFINITION: how often an edge that leads right or down from a place is used
abbrev used_from : List Edge → Vertex → ℕ
used_from es v = uses (along Right v) es + uses (along Down v) es

-- an edge is one of the two that lead from its left or upper end
counts_itself : (e : Edge) → Across e ⊎ Downward e → 1 ≤ used_from (e ∷ []) e.from
unfolding uses
counts_itself e (inl a) =
    let f : along Right e.from ≡ e = edge_eq (along Right e.from) e refl refl (sym a.to) in
    omega (arith, ap one ((same_edge_exact (along Right e.from) e).1 f))
counts_itself e (inr a) =
    let f : along Down e.from ≡ e = edge_eq (along Down e.from) e refl refl (sym a.to) in
    omega (arith, ap one ((same_edge_exact (along Down e.from) e).1 f))

framed : (e : Edge) → Across e ⊎ Downward e → (e.from.line < 32) × (e.from.column < 32)
framed e (inl a) = let h = a.line in let k = a.column in (omega arith, omega arith)
framed e (inr a) = let h = a.line in let k = a.column in (omega arith, omega arith)

length_used : (b : Board) → Within b → (es : List Edge) → All b es → length es ≤ frame_sum (used_from es)
unfolding uses
length_used b w [] a = omega arith
length_used b w (e ∷ es) a =
    let s = edge_spans b w e a.0 in let f = framed e s in
    omega (
      arith,
      length_used b w es a.1,
      counts_itself e s,
      frame_get (used_from (e ∷ [])) e.from f.0 f.1,
      frame_add (used_from (e ∷ [])) (used_from es),
      frame_le (λ v. used_from (e ∷ []) v + used_from es v) (used_from (e ∷ es)) (λ v. omega arith),
    )

-- an edge that is used at most once, and only if it is the board's
once_there : (b : Board) (es : List Edge) → All b es → ((e : Edge) → uses e es ≤ 1) → (d : Direction) (v : Vertex)
    → uses (along d v) es ≤ one (edge? b d v)
once_there b es a o d v = elim (le_or_lt (uses (along d v) es) 0) [
  | inl h ↦ omega arith
  | inr h ↦ omega (arith, o (along d v), ap one ((edge_exact b d v).1 (all_edges b es a (along d v) h)))
]

pub edges_few : (b : Board) → Within b → (es : List Edge) → All b es → ((e : Edge) → uses e es ≤ 1) → length es ≤ edge_count b
edges_few b w es a o = omega (
  arith,
  length_used b w es a,
  frame_le (used_from es) (edges_leading b) (λ v. omega (arith, once_there b es a o Right v, once_there b es a o Down v)),
  edge_count_framed b,
)

-- THE LAW: a routing uses at most as many edges as the board has
pub used_most : (b : Board) → Within b → (ps : List Pair) (dss : List (List Direction)) → Routing b ps dss → edges_used dss ≤ edge_count b
used_most b w ps dss r = omega (
  arith,
  edges_few b w (flatten (trails ps dss)) (joins_edges b ps dss r.joins) r.once,
  used_edges b ps dss r.joins,
)
