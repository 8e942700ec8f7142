-- Boards with odd vertices: nets can be joined exactly when some pairing of the odd vertices by helper pairs leaves no cut overfull.
-- Assumes a problem on a convex board, over any pin count that is never above 4 minus the degree; its vertices may be odd.
use Rattle.std.specs.Prelude.{◌≡◌, List, [], ◌++◌, ◌↔◌, ℕ}
use Rattle.std.proofs.Common.{ap, ◌∙◌, sym, arith}
use Rattle.count.specs.Truth.{one}
use Rattle.board.specs.Board.{Board, IsVertex}
use Rattle.board.specs.declared.Vertex.{Vertex}
use Rattle.board.specs.declared.Direction.{Direction}
use Rattle.net.specs.declared.Pair.{Pair}
use Rattle.cut.specs.Cut.{overfull_cuts}
use Rattle.cut.specs.Odd.{odd?}
use Rattle.routing_rules.specs.Routing.{Routing, Routable}
use Rattle.count.specs.Parity.{odd_number}
use Rattle.corner.specs.Problem.{Problem, Helpers, Paired}
use Rattle.corner.proofs.Tallies.{all_map, all_append}
use Rattle.corner.specs.Shape.{Here, Good}
use Rattle.corner.specs.Placed.{CutCondition, odd_at, HelpersOn}
use Rattle.corner.proofs.Pairing.{paired_cuts, paired_good, paired_routed}
use Rattle.corner.proofs.Order.{good_same, append_same}
use Rattle.corner.specs.Links.{paths_of}
use Rattle.corner.proofs.Paths.{routable_disjoint, routing_routable}
use Rattle.corner.proofs.Lines.{lines_of}
use Rattle.corner.proofs.Counted.{terminals_standing}
use Rattle.corner.proofs.Overfull.{none_overfull, overfull_none}
use Rattle.corner.proofs.Even.{odd-at}
use Rattle.corner.proofs.Boards.{
  problem-vertex,
  problem-here,
  problem-count,
  problem-loose,
  shape-cuts,
  board-cuts,
  shape-disjoint,
  shape_routing,
}

module _ (b : Board) {p : Vertex → ℕ} (ps : List Pair) (P : Problem b p ps) where
  odd-one : (v : Vertex) → Here (lines_of b) v → one (odd_at (lines_of b) ps v) ≡ one (odd? b ps v)
  odd-one v h = ap (λ n. one (odd_number n)) (problem-count b ps P ps v h) ∙ sym (ap one (odd-at b ps v (problem-vertex b ps P v h)))

  shape-helpers : (hs : List Pair) → Helpers b ps hs → HelpersOn (lines_of b) ps hs
  shape-helpers hs H = record {
    stand = all_map (problem-here b ps P) hs H.stand;
    each = λ v h. omega (arith, H.each v (problem-vertex b ps P v h), terminals_standing hs v, odd-one v h);
  }

  board-helpers : (hs : List Pair) → HelpersOn (lines_of b) ps hs → Helpers b ps hs
  board-helpers hs H = record {
    stand = all_map (problem-vertex b ps P) hs H.stand;
    each = λ v h. omega (arith, H.each v (problem-here b ps P v h), terminals_standing hs v, odd-one v (problem-here b ps P v h));
  }

  keeps-cuts : (hs : List Pair) → Helpers b ps hs → overfull_cuts b (hs ++ ps) ≡ [] → CutCondition (lines_of b) (hs ++ ps)
  keeps-cuts hs H e =
      shape-cuts b ps P (hs ++ ps) (overfull_none b (hs ++ ps) P.within (all_append (IsVertex b) hs ps H.stand P.stand) e)

  -- the nets and helper pairs that leave no cut overfull are good together, the nets first
  pub helped-good : (hs : List Pair) → Helpers b ps hs → overfull_cuts b (hs ++ ps) ≡ [] → Good (lines_of b) (ps ++ hs)
  helped-good hs H e = good_same (lines_of b) (hs ++ ps) (ps ++ hs) (append_same hs ps)
      (paired_good (lines_of b) ps hs (problem-loose b ps P) (shape-helpers hs H) (keeps-cuts hs H e))

  -- enough: the nets with the helper pairs have a routing, and the helper pairs' paths are left out
  pub odd-routing : Paired b ps → (dss : List (List Direction)) × Routing b ps dss
  odd-routing (hs, H, e) =
      let R = paired_routed (lines_of b) ps hs (problem-loose b ps P) (shape-helpers hs H) (keeps-cuts hs H e) in
      (paths_of ps R.trails, shape_routing b ps P R)

  -- needed: what a routing leaves unused joins the odd vertices in pairs
  pub odd-needed : Routable b ps → Paired b ps
  odd-needed R =
      let k = paired_cuts (lines_of b) ps (problem-loose b ps P) (shape-disjoint b ps P ps (routable_disjoint b ps R)) in
      (k.0, board-helpers k.0 k.1, none_overfull b (k.0 ++ ps) (board-cuts b ps P (k.0 ++ ps) k.2))

  pub odd-routable : Routable b ps ↔ Paired b ps
  odd-routable = (odd-needed, λ h. let r = odd-routing h in routing_routable b ps r.0 r.1)
