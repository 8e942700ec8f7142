-- Paths of directions and trails of unit edges are the same thing: a routing of the one kind gives one of the other.
-- Assumes nothing.
use Rattle.std.specs.Prelude.{◌≡◌, refl, Bool, true, false, ◌+◌, ◌≤◌}
use Rattle.std.proofs.Common.{ap, ap₂, ◌∙◌, sym, subst, inl, inr, arith}
use mathlib.Core.List.{List, [], ◌∷◌, ◌++◌, map, flatten}
use Rattle.count.specs.Truth.{one}
use Rattle.count.specs.TruthLaws.{bool, clash, not_true, one_le}
use Rattle.board.specs.Board.{Board, Edge, IsEdge}
use Rattle.board.specs.Path.{next, along, Path}
use Rattle.board.specs.declared.Vertex.{Vertex}
use Rattle.board.specs.declared.Direction.{Direction}
use Rattle.net.specs.declared.Pair.{Pair}
use Rattle.routing_rules.specs.Routing.{Joins, edges_from, trails, same_edge, uses, users, Routing, Routable}
use Rattle.count.specs.Each.{Each}
use Rattle.corner.specs.Trails.{Link, lo, hi, same_link, Walk, used, Trails, total, sharers, Routed, Disjoint}
use Rattle.corner.proofs.TrailLaws.{link_true}
use Rattle.corner.proofs.Carry.{every_there}
use Rattle.corner.proofs.Tidy.{tidy}
use Rattle.corner.specs.Links.{on_board, edge_of, links_of, forward, backward, dirs_of, paths_of}
use Rattle.corner.proofs.LinkLaws.{on_exact, same_edge_link, link_case, step_link, forward_step, backward_step}

-- ── how often an edge is used ──
pub uses_link : (e : Link) (es : List Link) → uses (edge_of e) (map edge_of es) ≡ used e es
unfolding uses used
uses_link e [] = refl
uses_link e (f ∷ es) = omega (arith, uses_link e es, ap one (same_edge_link e f))

uses_none : (g : Edge) → ((f : Link) → same_edge g (edge_of f) ≡ false) → (es : List Link) → uses g (map edge_of es) ≡ 0
unfolding uses
uses_none g h [] = refl
uses_none g h (f ∷ es) = omega (arith, uses_none g h es, ap one (h f))

uses_append : (g : Edge) (es fs : List Edge) → uses g (es ++ fs) ≡ uses g es + uses g fs
unfolding uses
uses_append g [] fs = omega arith
uses_append g (e ∷ es) fs = omega (arith, uses_append g es fs)

used_off : (J : Link → Bool) (e : Link) → J e ≡ false → (es : List Link) → Each (λ f. J f ≡ true) es → used e es ≡ 0
unfolding used
used_off J e n [] a = refl
used_off J e n (f ∷ es) a = omega (
  arith,
  used_off J e n es a.1,
  ap one (not_true (same_link e f) (λ h. clash (subst (λ g. J g ≡ true) (sym (link_true e f h)) a.0) n)),
)

-- ── from a path to a walk ──
path_walk : (b : Board) (u v : Vertex) (ds : List Direction) → Path b u ds v → Walk u (links_of u ds) v
unfolding links_of
path_walk b u v [] h = h
path_walk b u v (d ∷ ds) h = let s = step_link b d u h.0 in let r = path_walk b (next d u) v ds h.1 in elim s.2 [
  | inl k ↦ inl (k.0, subst (λ w. Walk w (links_of (next d u) ds) v) k.1 r)
  | inr k ↦ inr (k.0, subst (λ w. Walk w (links_of (next d u) ds) v) k.1 r)
]

path_on : (b : Board) (u v : Vertex) (ds : List Direction) → Path b u ds v → Each (λ e. on_board b e ≡ true) (links_of u ds)
unfolding links_of
path_on b u v [] h = tt
path_on b u v (d ∷ ds) h = ((step_link b d u h.0).0, path_on b (next d u) v ds h.1)

path-edges : (b : Board) (u v : Vertex) (ds : List Direction) → Path b u ds v → edges_from u ds ≡ map edge_of (links_of u ds)
unfolding links_of edges_from
path-edges b u v [] h = refl
path-edges b u v (d ∷ ds) h = ap₂ (λ e es. e ∷ es) (step_link b d u h.0).1 (path-edges b (next d u) v ds h.1)

path_trails : (b : Board) (ps : List Pair) (dss : List (List Direction)) → Joins b ps dss → Trails ps
path_trails b [] dss j = tt
path_trails b (p ∷ ps) [] j = absurd j
path_trails b (p ∷ ps) (ds ∷ dss) j = ((links_of p.first ds, path_walk b p.first p.second ds j.0), path_trails b ps dss j.1)

path_sharers : (b : Board) (e : Link) (ps : List Pair) (dss : List (List Direction)) (j : Joins b ps dss)
    → sharers e ps (path_trails b ps dss j) ≡ users (edge_of e) (trails ps dss)
unfolding path_trails sharers users trails
path_sharers b e [] dss j = refl
path_sharers b e (p ∷ ps) [] j = absurd j
path_sharers b e (p ∷ ps) (ds ∷ dss) j = omega (
  arith,
  path_sharers b e ps dss j.1,
  ap (uses (edge_of e)) (path-edges b p.first p.second ds j.0),
  uses_link e (links_of p.first ds),
)

path_off : (b : Board) (e : Link) → on_board b e ≡ false → (ps : List Pair) (dss : List (List Direction)) (j : Joins b ps dss)
    → sharers e ps (path_trails b ps dss j) ≡ 0
unfolding path_trails sharers
path_off b e n [] dss j = refl
path_off b e n (p ∷ ps) [] j = absurd j
path_off b e n (p ∷ ps) (ds ∷ dss) j = omega (
  arith,
  path_off b e n ps dss j.1,
  used_off (on_board b) e n (links_of p.first ds) (path_on b p.first p.second ds j.0),
)

pub routable_disjoint : (b : Board) (ps : List Pair) → Routable b ps → Disjoint (on_board b) ps
routable_disjoint b ps R = record {
  trails = path_trails b ps R.paths R.joins;
  once = λ e. elim (bool (on_board b e)) [
    | inl y ↦ omega (arith, path_sharers b e ps R.paths R.joins, R.disjoint (edge_of e), ap one y)
    | inr n ↦ omega (arith, path_off b e n ps R.paths R.joins)
  ];
}

-- ── from a walk to a path ──
walk-path : (b : Board) (u v : Vertex) (es : List Link) (w : Walk u es v) → Each (λ e. on_board b e ≡ true) es → Path b u (dirs_of u v es w) v
unfolding dirs_of
walk-path b u v [] w a = w
walk-path b u v (e ∷ es) (inl w) a = let s = forward_step e in
    subst (λ x. IsEdge b (along (forward e) x) × Path b (next (forward e) x) (dirs_of (hi e) v es w.1) v) (sym w.0) (
      subst (IsEdge b) (sym s.0) ((on_exact b e).0 a.0),
      subst (λ x. Path b x (dirs_of (hi e) v es w.1) v) (sym s.1) (walk-path b (hi e) v es w.1 a.1),
    )
walk-path b u v (e ∷ es) (inr w) a = let s = backward_step e in
    subst (λ x. IsEdge b (along (backward e) x) × Path b (next (backward e) x) (dirs_of (lo e) v es w.1) v) (sym w.0) (
      subst (IsEdge b) (sym s.0) ((on_exact b e).0 a.0),
      subst (λ x. Path b x (dirs_of (lo e) v es w.1) v) (sym s.1) (walk-path b (lo e) v es w.1 a.1),
    )

walk_edges : (u v : Vertex) (es : List Link) (w : Walk u es v) → edges_from u (dirs_of u v es w) ≡ map edge_of es
unfolding dirs_of edges_from
walk_edges u v [] w = refl
walk_edges u v (e ∷ es) (inl w) = let s = forward_step e in
    ap (λ x. along (forward e) x ∷ edges_from (next (forward e) x) (dirs_of (hi e) v es w.1)) w.0
    ∙ ap₂ (λ f fs. f ∷ fs) s.0 (ap (λ x. edges_from x (dirs_of (hi e) v es w.1)) s.1 ∙ walk_edges (hi e) v es w.1)
walk_edges u v (e ∷ es) (inr w) = let s = backward_step e in
    ap (λ x. along (backward e) x ∷ edges_from (next (backward e) x) (dirs_of (lo e) v es w.1)) w.0
    ∙ ap₂ (λ f fs. f ∷ fs) s.0 (ap (λ x. edges_from x (dirs_of (lo e) v es w.1)) s.1 ∙ walk_edges (lo e) v es w.1)

trails_join : (b : Board) (ps : List Pair) (ts : Trails ps) → ((e : Link) → total e ps ts ≤ one (on_board b e)) → Joins b ps (paths_of ps ts)
unfolding total paths_of
trails_join b [] ts h = tt
trails_join b (p ∷ ps) ts h = (
  walk-path b p.first p.second ts.0.0 ts.0.1 (every_there (on_board b) ts.0.0 (λ e. omega (arith, h e))),
  trails_join b ps ts.1 (λ e. omega (arith, h e)),
)

trails_use : (g : Edge) (ps : List Pair) (ts : Trails ps) (f : Link) → g ≡ edge_of f → uses g (flatten (trails ps (paths_of ps ts))) ≡ total f ps ts
unfolding total paths_of trails flatten uses
trails_use g [] ts f q = refl
trails_use g (p ∷ ps) ts f q = omega (
  arith,
  uses_append g (edges_from p.first (dirs_of p.first p.second ts.0.0 ts.0.1)) (flatten (trails ps (paths_of ps ts.1))),
  trails_use g ps ts.1 f q,
  ap (uses g) (walk_edges p.first p.second ts.0.0 ts.0.1),
  ap (λ h. uses h (map edge_of ts.0.0)) q,
  uses_link f ts.0.0,
)

trails_none : (g : Edge) → ((f : Link) → same_edge g (edge_of f) ≡ false) → (ps : List Pair) (ts : Trails ps)
    → uses g (flatten (trails ps (paths_of ps ts))) ≡ 0
unfolding paths_of trails flatten uses
trails_none g n [] ts = refl
trails_none g n (p ∷ ps) ts = omega (
  arith,
  uses_append g (edges_from p.first (dirs_of p.first p.second ts.0.0 ts.0.1)) (flatten (trails ps (paths_of ps ts.1))),
  trails_none g n ps ts.1,
  ap (uses g) (walk_edges p.first p.second ts.0.0 ts.0.1),
  uses_none g n ts.0.0,
)

pub routed_routing : (b : Board) (ps : List Pair) (R : Routed (on_board b) ps) → Routing b ps (paths_of ps R.trails)
routed_routing b ps R = record {
  joins = trails_join b ps R.trails R.once;
  once = λ g. elim (link_case g) [
    | inl f ↦ omega (arith, trails_use g ps R.trails f.0 f.1, R.once f.0, one_le (on_board b f.0))
    | inr n ↦ omega (arith, trails_none g n ps R.trails)
  ];
}

-- ── a routing is pairwise edge-disjoint ──
users_uses : (e : Edge) (ess : List (List Edge)) → users e ess ≤ uses e (flatten ess)
unfolding users uses flatten
users_uses e [] = omega arith
users_uses e (es ∷ ess) = omega (arith, uses_append e es (flatten ess), users_uses e ess)

pub routing_routable : (b : Board) (ps : List Pair) (dss : List (List Direction)) → Routing b ps dss → Routable b ps
routing_routable b ps dss R = record { paths = dss; joins = R.joins; disjoint = λ e. omega (arith, users_uses e (trails ps dss), R.once e) }

-- and paths that may use their own edges again can be made to use no edge twice, on any board
pub tidied : (b : Board) (ps : List Pair) → Routable b ps → (dss : List (List Direction)) × Routing b ps dss
tidied b ps R = let D = tidy (on_board b) ps (routable_disjoint b ps R) in (paths_of ps D.trails, routed_routing b ps D)
