-- A walk that is not refused goes along paths that use no edge twice; and along such paths no walk is refused.
-- Assumes nothing.
use Rattle.std.specs.Prelude.{◌≡◌, refl, false, not, ℕ, zero, suc, ◌+◌, ◌≤◌, ltb, replicate}
use Rattle.std.proofs.Common.{ap, sym, subst, inl, inr, arith, ltb-false, le-ltb}
use mathlib.Core.List.{List, [], ◌∷◌, ◌++◌, map, flatten}
use Rattle.count.specs.Truth.{one}
use Rattle.count.specs.TruthLaws.{bool}
use Rattle.board.specs.Board.{Board, Edge, IsEdge}
use Rattle.board.specs.Path.{next, along, Path}
use Rattle.board.specs.Degree.{edge?}
use Rattle.board.specs.Tests.{edge_exact}
use Rattle.board.specs.declared.Vertex.{Vertex}
use Rattle.board.specs.declared.Direction.{Direction}
use Rattle.net.specs.Terminals.{same}
use Rattle.net.specs.declared.Pair.{Pair}
use Rattle.routing_rules.specs.Routing.{Joins, edges_from, trails, same_edge, uses}
use Rattle.net.specs.Same.{same_exact}
use Rattle.routing_rules.specs.Check.{same_edge_exact}
use Rattle.session_rules.specs.Refusal.{Refusal, line, first_refusal}
use Rattle.call_rules.specs.Result.{Result, no, yes, and_then, unless}
use Rattle.call_rules.specs.Shape.{RunAt, PathAt}
use Rattle.routing_laws.proofs.Used.{uses_append}
use Rattle.call_rules.specs.Walk.{Walker, walk_steps, walk_runs, walk_path, walk_paths}
use Rattle.call_rules.specs.Report.{directions}
use Rattle.call_rules.specs.Judge.{paths_in}

abbrev walker : Vertex → List Edge → Walker
walker v used = record { place = v; used = used }

-- DEFINITION: from u in the directions ds to v, over edges that were not used before; used' are those used after it
pub record Went (b : Board) (u : Vertex) (ds : List Direction) (used : List Edge) (v : Vertex) (used' : List Edge) : Type 0 where
  pub path : Path b u ds v
  pub counts : (e : Edge) → uses e used' ≡ uses e (edges_from u ds) + uses e used
  pub once : ((e : Edge) → uses e used ≤ 1) → (e : Edge) → uses e used' ≤ 1

went_none : {b : Board} (u : Vertex) (used : List Edge) → Went b u [] used u used
unfolding edges_from uses
went_none u used = record { path = refl; counts = λ e. omega arith; once = λ h. h }

went_step : {b : Board} {u : Vertex} {d : Direction} {ds : List Direction} {used used' : List Edge} {v : Vertex} → IsEdge b (along d u)
    → uses (along d u) used ≤ 0
    → Went b (next d u) ds (along d u ∷ used) v used' → Went b u (d ∷ ds) used v used'
unfolding edges_from uses
went_step {u = u} {d} {used = used} h z w = record {
  path = (h, w.path);
  counts = λ e. omega (arith, w.counts e);
  once = λ o. w.once (λ e. elim (bool (same_edge e (along d u))) [
    | inl t ↦ let q : e ≡ along d u = (same_edge_exact e (along d u)).0 t in let y : uses e used ≤ 0 = rw q z in omega (arith, ap one t)
    | inr t ↦ omega (arith, ap one t, o e)
  ]);
}

pub yes_eq : {A : Type 0} {a b : A} → yes a ≡ yes b → a ≡ b
yes_eq e = cc

pub no_yes : {A B : Type 0} {r : Refusal} {a : A} → no r ≡ yes a → B
no_yes e = absurd (let z : ◌≡◌ {A = ℕ} 0 1 = cc in omega arith)

steps_went : (b : Board) (i : ℕ) (d : Direction) (n : ℕ) (u : Vertex) (used : List Edge) (w : Walker) → walk_steps b i d n (walker u used) ≡ yes w
    → (es : List Direction) (v : Vertex) (used' : List Edge) → Went b w.place es w.used v used' → Went b u (replicate n d ++ es) used v used'
unfolding walk_steps
steps_went b i d zero u used w h es v used' k = subst (λ (x : Walker). Went b x.place es x.used v used') (sym (yes_eq h)) k
steps_went b i d (suc n) u used w h es v used' k = elim (bool (edge? b d u)) [
  | inl t ↦ elim (bool (ltb 0 (uses (along d u) used))) [
    | inl s ↦ no_yes (rw (t, s) at h)
    | inr s ↦ went_step ((edge_exact b d u).0 t) (ltb-false 0 _ s) (steps_went b i d n (next d u) (along d u ∷ used) w (rw (t, s) at h) es v used' k)
  ]
  | inr t ↦ no_yes (rw t at h)
]

pub runs_went : (b : Board) (rs : List RunAt) (u : Vertex) (used : List Edge) (w : Walker) → walk_runs b rs (walker u used) ≡ yes w
    → Went b u (directions rs) used w.place w.used
unfolding walk_runs directions
runs_went b [] u used w h = subst (λ (x : Walker). Went b u [] used x.place x.used) (yes_eq h) (went_none u used)
runs_went b (r ∷ rs) u used w h = go (walk_steps b r.index r.run.direction r.run.length (walker u used)) refl h
    (λ y f. runs_went b rs y.place y.used w f)
  where
    go : (x : Result Walker) → walk_steps b r.index r.run.direction r.run.length (walker u used) ≡ x → and_then x (walk_runs b rs) ≡ yes w
        → ((y : Walker) → walk_runs b rs y ≡ yes w → Went b y.place (directions rs) y.used w.place w.used)
        → Went b u (replicate r.run.length r.run.direction ++ directions rs) used w.place w.used
    go (no y) e f rest = no_yes f
    go (yes y) e f rest = steps_went b r.index r.run.direction r.run.length u used y e (directions rs) w.place w.used (rest y f)

-- DEFINITION: what is left of a path's walk after its runs
abbrev ending : PathAt → Walker → Result (List Edge)
ending p w = unless (first_refusal (line (not (same w.place p.net.ends.second)) 46 p.index ∷ [])) (yes w.used)

path_went : (b : Board) (p : PathAt) (used used' : List Edge) → walk_path b p used ≡ yes used'
    → Went b p.net.ends.first (directions p.runs) used p.net.ends.second used'
unfolding walk_path
path_went b p used used' h = go (walk_runs b p.runs (walker p.net.ends.first used)) refl h
  where
    go : (x : Result Walker) → walk_runs b p.runs (walker p.net.ends.first used) ≡ x → and_then x (ending p) ≡ yes used'
        → Went b p.net.ends.first (directions p.runs) used p.net.ends.second used'
    go (no y) e f = no_yes f
    go (yes y) e f = elim (bool (same y.place p.net.ends.second)) [
      | inl t ↦
          let s = (same_exact y.place p.net.ends.second).0 t in
          let q : y.used ≡ used' = yes_eq (rw t at f) in
          rw (s, q) at (runs_went b p.runs p.net.ends.first used y e)
      | inr t ↦ no_yes (rw t at f)
    ]

-- ── all paths ──
abbrev pub ends_of : List PathAt → List Pair
ends_of ps = map (λ (p : PathAt). p.net.ends) ps

pub record WentAll (b : Board) (ps : List PathAt) (used used' : List Edge) : Type 0 where
  pub joins : Joins b (ends_of ps) (paths_in ps)
  pub counts : (e : Edge) → uses e used' ≡ uses e (flatten (trails (ends_of ps) (paths_in ps))) + uses e used
  pub once : ((e : Edge) → uses e used ≤ 1) → (e : Edge) → uses e used' ≤ 1

pub paths_went : (b : Board) (ps : List PathAt) (used used' : List Edge) → walk_paths b ps used ≡ yes used' → WentAll b ps used used'
unfolding walk_paths trails uses flatten
paths_went b [] used used' h = let q : used ≡ used' = yes_eq h in record { joins = tt; counts = λ e. rw q (omega arith); once = λ o. rw (← q) o }
paths_went b (p ∷ ps) used used' h = go (walk_path b p used) refl h (λ y f. paths_went b ps y used' f)
  where
    go : (x : Result (List Edge)) → walk_path b p used ≡ x → and_then x (walk_paths b ps) ≡ yes used'
        → ((y : List Edge) → walk_paths b ps y ≡ yes used' → WentAll b ps y used') → WentAll b (p ∷ ps) used used'
    go (no y) e f rest = no_yes f
    go (yes y) e f rest =
        let w = path_went b p used y e in
        let r = rest y f in
        record {
          joins = (w.path, r.joins);
          counts = λ e.
              omega (
                arith,
                w.counts e,
                r.counts e,
                uses_append e (edges_from p.net.ends.first (directions p.runs))
                    (flatten (trails (ends_of ps) (paths_in ps))),
              );
          once = λ o. r.once (w.once o);
        }

-- ── back: along such paths no walk is refused ──
-- DEFINITION: with the edges used so far, those still to come and k more, none is used twice
abbrev Spare : (Edge → ℕ) → List Edge → List Edge → Type 0
Spare k es used = (e : Edge) → uses e es + uses e used + k e ≤ 1

steps_can : (k : Edge → ℕ) (b : Board) (i : ℕ) (d : Direction) (n : ℕ) (u : Vertex) (used : List Edge) (es : List Direction) (v : Vertex)
    → Path b u (replicate n d ++ es) v → Spare k (edges_from u (replicate n d ++ es)) used
    → (w : Walker) × (walk_steps b i d n (walker u used) ≡ yes w) × Path b w.place es v × Spare k (edges_from w.place es) w.used
unfolding walk_steps edges_from uses
steps_can k b i d zero u used es v p s = (walker u used, refl, p, s)
steps_can k b i d (suc n) u used es v p s =
    let t = (edge_exact b d u).1 p.0 in
    let o : one (same_edge (along d u) (along d u)) ≡ 1 = ap one ((same_edge_exact (along d u) (along d u)).1 refl) in
    let z : ltb 0 (uses (along d u) used) ≡ false = le-ltb 0 (uses (along d u) used) (omega (arith, s (along d u))) in
    let (w, q, r, y) = steps_can k b i d n (next d u) (along d u ∷ used) es v p.1 (λ e. omega (arith, s e)) in
    (w, rw (t, z) q, r, y)

runs_can : (k : Edge → ℕ) (b : Board) (rs : List RunAt) (u : Vertex) (used : List Edge) (v : Vertex) → Path b u (directions rs) v
    → Spare k (edges_from u (directions rs)) used → (used' : List Edge) × (walk_runs b rs (walker u used) ≡ yes (walker v used')) × Spare k [] used'
unfolding walk_runs directions edges_from uses
runs_can k b [] u used v p s = (used, rw p refl, s)
runs_can k b (r ∷ rs) u used v p s =
    let (w, q, x, y) = steps_can k b r.index r.run.direction r.run.length u used (directions rs) v p s in
    let (used', f, g) = runs_can k b rs w.place w.used v x y in
    (used', rw q f, g)

pub paths_can : (b : Board) (ps : List PathAt) (used : List Edge) → Joins b (ends_of ps) (paths_in ps)
    → ((e : Edge) → uses e (flatten (trails (ends_of ps) (paths_in ps))) + uses e used ≤ 1) → (used' : List Edge) × (walk_paths b ps used ≡ yes used')
unfolding walk_paths walk_path trails uses flatten
paths_can b [] used j s = (used, refl)
paths_can b (p ∷ ps) used j s =
    let k : Edge → ℕ = λ e. uses e (flatten (trails (ends_of ps) (paths_in ps))) in
    let a : (e : Edge) → uses e (edges_from p.net.ends.first (directions p.runs) ++ flatten (trails (ends_of ps) (paths_in ps)))
    ≡ uses e (edges_from p.net.ends.first (directions p.runs)) + k e =
    λ e. uses_append e (edges_from p.net.ends.first (directions p.runs)) (flatten (trails (ends_of ps) (paths_in ps))) in
    let (used', q, y) = runs_can k b p.runs p.net.ends.first used p.net.ends.second j.0 (λ e. omega (arith, s e, a e)) in
    let t = (same_exact p.net.ends.second p.net.ends.second).1 refl in
    let (last, r) = paths_can b ps used' j.1 (λ e. omega (arith, y e)) in
    (last, rw (q, t) r)
