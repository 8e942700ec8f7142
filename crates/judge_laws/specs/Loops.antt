-- A path may walk a loop of its own in either direction: it joins the same vertices and uses the same set of edges (document 02, §3).
-- Assumes that the path goes along edges of a board.
use Rattle.std.specs.Prelude.{◌≡◌, refl, List, [], ◌∷◌, ◌++◌, suc, ◌+◌, ◌-◌}
use Rattle.std.proofs.Common.{ap, sym, arith}
use Rattle.board.specs.Board.{Board, Edge, IsEdge}
use Rattle.board.specs.Path.{next, along, Path}
use Rattle.board.specs.EdgesAt.{edge_rises}
use Rattle.board.specs.declared.Vertex.{Vertex}
use Rattle.board.specs.declared.Direction.{Direction}
use Rattle.board.specs.declared.Direction.TheVariants.{Up, Right, Down, Left}
use Rattle.board_convex.proofs.Runs.{path_join}
use Rattle.routing_rules.specs.Routing.{edges_from, uses}
use Rattle.call_rules.specs.Alike.{SameEdges}
use Rattle.routing_laws.proofs.Used.{uses_append}

-- DEFINITION: the direction back
abbrev pub back : Direction → Direction
back Up = Down
back Right = Left
back Down = Up
back Left = Right

-- DEFINITION: the same way, walked from its end to its start
unfoldable pub backwards : List Direction → List Direction
backwards [] = []
backwards (d ∷ ds) = backwards ds ++ (back d ∷ [])

pub step_back : (b : Board) (d : Direction) (u : Vertex) → IsEdge b (along d u)
    → (next (back d) (next d u) ≡ u) × (along (back d) (next d u) ≡ along d u)
step_back b d u h = go d (edge_rises b (along d u) h)
  where
    go : (d : Direction) → (along d u).to.line + (along d u).to.column ≡ suc ((along d u).from.line + (along d u).from.column)
        → (next (back d) (next d u) ≡ u) × (along (back d) (next d u) ≡ along d u)
    go Up r = let l : suc (u.line - 1) ≡ u.line = omega arith in (rw l refl, rw l refl)
    go Right r = let l : suc u.column - 1 ≡ u.column = omega arith in (rw l refl, rw l refl)
    go Down r = let l : suc u.line - 1 ≡ u.line = omega arith in (rw l refl, rw l refl)
    go Left r = let l : suc (u.column - 1) ≡ u.column = omega arith in (rw l refl, rw l refl)

edges_join : (b : Board) (u : Vertex) (ds : List Direction) (w : Vertex) → Path b u ds w → (es : List Direction)
    → edges_from u (ds ++ es) ≡ edges_from u ds ++ edges_from w es
unfolding edges_from
edges_join b u [] w p es = rw p refl
edges_join b u (d ∷ ds) w p es = ap (λ (l : List Edge). along d u ∷ l) (edges_join b (next d u) ds w p.1 es)

-- walked back, a way comes to its start, along the same edges
walked_back : (b : Board) (u : Vertex) (ds : List Direction) (v : Vertex) → Path b u ds v
    → Path b v (backwards ds) u × ((e : Edge) → uses e (edges_from v (backwards ds)) ≡ uses e (edges_from u ds))
unfolding backwards edges_from uses
walked_back b u [] v p = (sym p, λ e. refl)
walked_back b u (d ∷ ds) v p =
    let (q, h) = walked_back b (next d u) ds v p.1 in
    let s = step_back b d u p.0 in (
      path_join (backwards ds) (back d ∷ []) b v (next d u) u q (rw s.1 p.0, s.0),
      λ e. rw (
        edges_join b v (backwards ds) (next d u) q (back d ∷ []),
        uses_append e (edges_from v (backwards ds)) (along (back d) (next d u) ∷ []),
        h e,
        s.1,
      ) (omega arith),
    )

-- DEFINITION: another way from u to v, over the same edges, each used as often
pub record SameWay (b : Board) (u v : Vertex) (ds es : List Direction) : Type 0 where
  pub path : Path b u es v
  pub counts : (e : Edge) → uses e (edges_from u ds) ≡ uses e (edges_from u es)
  pub same : SameEdges (edges_from u ds) (edges_from u es)

-- THE LAW: after `before` the path is at x, where its loop starts and ends; `rest` comes after the loop
pub loop_either_way : (b : Board) (u x v : Vertex) (before loop rest : List Direction) → Path b u before x → Path b x loop x → Path b x rest v
    → SameWay b u v (before ++ (loop ++ rest)) (before ++ (backwards loop ++ rest))
loop_either_way b u x v before loop rest p q t =
    let (r, h) = walked_back b x loop x q in
    let counts : (e : Edge) → uses e (edges_from u (before ++ (loop ++ rest))) ≡ uses e (edges_from u (before ++ (backwards loop ++ rest))) = λ e.
    rw (
      edges_join b u before x p (loop ++ rest),
      edges_join b u before x p (backwards loop ++ rest),
      edges_join b x loop x q rest,
      edges_join b x (backwards loop) x r rest,
      uses_append e (edges_from u before) (edges_from x loop ++ edges_from x rest),
      uses_append e (edges_from u before) (edges_from x (backwards loop) ++ edges_from x rest),
      uses_append e (edges_from x loop) (edges_from x rest),
      uses_append e (edges_from x (backwards loop)) (edges_from x rest),
      h e,
    ) refl in
    record {
      path = path_join before (backwards loop ++ rest) b u x v p (path_join (backwards loop) rest b x x v r t);
      counts = counts;
      same = λ e. (λ k. omega (arith, counts e), λ k. omega (arith, counts e));
    }
