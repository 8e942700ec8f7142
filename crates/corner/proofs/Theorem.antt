-- The theorem of document 004 (Nishizeki, Saito, Suzuki, 1985): on an even convex board the nets can be joined by pairwise
-- edge-disjoint paths exactly when no row or column is overfull. `Problem` (in Problem) is what is assumed beside evenness: the board is
-- within the limits and convex, every terminal is a vertex, and no vertex v has more than p v terminals, whatever pin count p gives it, never above
-- 4 minus its degree.
use Rattle.std.specs.Prelude.{◌≡◌, List, [], ◌↔◌, ℕ}
use Rattle.std.proofs.Common.{arith}
use Rattle.board.specs.Board.{Board, Within}
use Rattle.board.specs.declared.Direction.{Direction}
use Rattle.board.specs.declared.Vertex.{Vertex}
use Rattle.net.specs.declared.Pair.{Pair}
use Rattle.cut.specs.declared.Cut.{Cut}
use Rattle.cut.specs.Cut.{Overfull, overfull_cuts}
use Rattle.cut.specs.Odd.{odd_vertices}
use Rattle.routing_rules.specs.Routing.{Routing, Routable}
use Rattle.corner.specs.Problem.{Problem}
use Rattle.corner.proofs.Route.{good_routed}
use Rattle.corner.proofs.Needed.{cut-needed}
use Rattle.corner.specs.Links.{on_board, paths_of}
use Rattle.corner.proofs.LinkLaws.{on_frame, edges_cap}
use Rattle.corner.proofs.Paths.{routable_disjoint, routing_routable}
use Rattle.corner.proofs.Lines.{lines_of}
use Rattle.corner.proofs.Counted.{crossing_leaving}
use Rattle.corner.proofs.Overfull.{overfull_count, not_overfull, none_overfull}
use Rattle.corner.proofs.Boards.{problem_good, shape_routing}

-- Enough: where no cut is overfull there is a routing, which uses no edge twice.
pub routing : (b : Board) {p : Vertex → ℕ} (ps : List Pair) → Problem b p ps → odd_vertices b ps ≡ [] → overfull_cuts b ps ≡ []
    → (dss : List (List Direction)) × Routing b ps dss
routing b ps P z e = let R = good_routed (lines_of b) ps (problem_good b ps P z e) in (paths_of ps R.trails, shape_routing b ps P R)

-- Needed: on any board within the limits, convex or not, even or odd, no cut has more nets than edges.
pub needed : (b : Board) (ps : List Pair) → Within b → Routable b ps → (X : Cut) → Overfull b ps X → ⊥
needed b ps W R X o = omega (
  arith,
  cut-needed (on_board b) (on_frame b W) X ps (routable_disjoint b ps R),
  crossing_leaving X ps,
  edges_cap b X,
  (overfull_count b ps X).0 o,
)

pub needed_cuts : (b : Board) (ps : List Pair) → Within b → Routable b ps → overfull_cuts b ps ≡ []
needed_cuts b ps W R = none_overfull b ps (λ X. not_overfull b ps X (needed b ps W R X))

-- Exactly when.
pub routable : (b : Board) {p : Vertex → ℕ} (ps : List Pair) → Problem b p ps → odd_vertices b ps ≡ [] → Routable b ps ↔ (overfull_cuts b ps ≡ [])
routable b ps P z = (needed_cuts b ps P.within, λ e. let r = routing b ps P z e in routing_routable b ps r.0 r.1)
