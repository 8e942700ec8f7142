-- A problem on a board as one on the shape of its lines, and a routing of the shape as one of the board.
-- Assumes a problem on a convex board.
use Rattle.std.specs.Prelude.{◌≡◌, List, [], ℕ, ◌+◌, ◌≤◌}
use Rattle.std.proofs.Common.{ap, arith}
use Rattle.count.specs.Truth.{one}
use Rattle.count.specs.TruthLaws.{one_le}
use Rattle.board.specs.Board.{Board, at, IsVertex}
use Rattle.board.specs.Degree.{edge?, degree}
use Rattle.board.specs.declared.Vertex.{Vertex}
use Rattle.board.specs.declared.Direction.TheVariants.{Up, Right, Down, Left}
use Rattle.net.specs.declared.Pair.{Pair}
use Rattle.net.specs.Terminals.{same, terminals}
use Rattle.cut.specs.Cut.{overfull_cuts}
use Rattle.cut.specs.Odd.{odd_vertices}
use Rattle.routing_rules.specs.Routing.{Routing}
use Rattle.corner.specs.Pairs.{standing}
use Rattle.board_convex.specs.Form.{Nested, NeverRegrow}
use Rattle.board_convex.proofs.Lemma1.{lemma_1}
use Rattle.corner.specs.Problem.{Problem, NoneOverfull}
use Rattle.corner.proofs.Tallies.{all_map}
use Rattle.corner.specs.Shape.{present, Here, deg, Shaped, Good}
use Rattle.corner.specs.Placed.{Placed, CutCondition, Loose}
use Rattle.corner.specs.Trails.{joined, Routed, Disjoint}
use Rattle.corner.proofs.CutParity.{good}
use Rattle.corner.specs.Links.{on_board, paths_of}
use Rattle.corner.proofs.Paths.{routed_routing}
use Rattle.corner.proofs.Lines.{lines_of, shaped, here-vertex, vertex-here, joined-board, deg-degree, cap-edges}
use Rattle.corner.proofs.Counted.{terminals_standing, crossing_leaving}
use Rattle.corner.proofs.Overfull.{overfull_none}
use Rattle.corner.proofs.Even.{all_even}

pub degree_le : (b : Board) (v : Vertex) → degree b v ≤ 4
unfolding degree
degree_le b v = omega (arith, one_le (edge? b Up v), one_le (edge? b Right v), one_le (edge? b Down v), one_le (edge? b Left v))

module _ (b : Board) {p : Vertex → ℕ} (ps : List Pair) (P : Problem b p ps) where
  nested : Nested b
  nested = ((lemma_1 b P.within).0 P.convex).0

  regrow : NeverRegrow b
  regrow = ((lemma_1 b P.within).0 P.convex).1

  pub problem-shaped : Shaped (lines_of b)
  problem-shaped = shaped b P.within nested regrow

  pub problem-vertex : (v : Vertex) → Here (lines_of b) v → IsVertex b v
  problem-vertex v h = here-vertex b P.within nested regrow v h

  pub problem-here : (v : Vertex) → IsVertex b v → Here (lines_of b) v
  problem-here v h = vertex-here b P.within nested regrow v h

  -- degree and terminals of a vertex, in the two ways
  pub problem-count : (qs : List Pair) (v : Vertex) → Here (lines_of b) v
      → deg (present (lines_of b)) v.line v.column + standing (same v) qs ≡ degree b v + terminals qs v
  problem-count qs v h = omega (arith, deg-degree b P.within nested regrow v (problem-vertex v h), terminals_standing qs v)

  pub problem-loose : Loose (lines_of b) ps
  problem-loose = record {
    shaped = problem-shaped;
    stand = all_map problem-here ps P.stand;
    few = λ l c h.
        let v = problem-vertex (at l c) h in
        omega (arith, problem-count ps (at l c) h, P.room (at l c) v, P.never_above (at l c) v, degree_le b (at l c));
  }

  -- the cut condition, in the two ways
  pub shape-cuts : (qs : List Pair) → NoneOverfull b qs → CutCondition (lines_of b) qs
  shape-cuts qs h X = omega (arith, h X, crossing_leaving X qs, cap-edges b P.within nested regrow X)

  pub board-cuts : (qs : List Pair) → CutCondition (lines_of b) qs → NoneOverfull b qs
  board-cuts qs h X = omega (arith, h X, crossing_leaving X qs, cap-edges b P.within nested regrow X)

  -- trails, in the two ways
  pub board-routed : (qs : List Pair) → Routed (joined (lines_of b)) qs → Routed (on_board b) qs
  board-routed qs R = record { trails = R.trails; once = λ e. omega (arith, R.once e, ap one (joined-board b P.within nested regrow e)) }

  pub shape-disjoint : (qs : List Pair) → Disjoint (on_board b) qs → Disjoint (joined (lines_of b)) qs
  shape-disjoint qs D = record { trails = D.trails; once = λ e. omega (arith, D.once e, ap one (joined-board b P.within nested regrow e)) }

-- where no vertex is odd and no cut overfull the problem is good
pub problem_placed : (b : Board) {p : Vertex → ℕ} (ps : List Pair) → Problem b p ps → odd_vertices b ps ≡ [] → Placed (lines_of b) ps
problem_placed b ps P z = record {
  shaped = L.shaped;
  stand = L.stand;
  even = λ l c h.
      let k = all_even b ps P.within z (at l c) (problem-vertex b ps P (at l c) h) in
      let e = problem-count b ps P ps (at l c) h in
      (k.0, omega (arith, k.1), omega (arith, k.1, L.few l c h));
}
  where
    L : Loose (lines_of b) ps
    L = problem-loose b ps P

pub problem_good : (b : Board) {p : Vertex → ℕ} (ps : List Pair) → Problem b p ps → odd_vertices b ps ≡ [] → overfull_cuts b ps ≡ []
    → Good (lines_of b) ps
problem_good b ps P z e = good (lines_of b) ps (problem_placed b ps P z) (shape-cuts b ps P ps (overfull_none b ps P.within P.stand e))

-- a routing of the shape is one of the board
pub shape_routing : (b : Board) {p : Vertex → ℕ} (ps : List Pair) → Problem b p ps → (R : Routed (joined (lines_of b)) ps)
    → Routing b ps (paths_of ps R.trails)
unfolding board-routed
shape_routing b ps P R = routed_routing b ps (board-routed b ps P ps R)
