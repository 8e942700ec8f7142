-- The walk of paths that pass, on a board within the limits, makes their map of used edges.
-- Assumes that the board is within the limits and that the nets have numbers above 0.
use Rattle.std.specs.Prelude.{◌≡◌, Bool, cond, length, get_or, set, replicate}
use Rattle.std.proofs.Math.Path.{refl, sym}
use Rattle.std.proofs.Common.{ap, ◌∙◌, inl, inr, length-set}
use Rattle.std.proofs.Math.Bool.{true, false, not}
use mathlib.Core.List.{List, [], ◌∷◌, ◌++◌, map}
use Rattle.std.proofs.Math.Option.{Option, none, some}
use Prim.Native.Nat.{ℕ, zero, suc, ◌+◌, ◌<◌}
use native.Mathlib.Omega.{arith}
use Rattle.std.proofs.Math.Dec.{ltb}
use Rattle.std.proofs.lemmas.List.{length-replicate}
use Rattle.std.proofs.Math.ListN.{get_or-replicate}
use Rattle.std.proofs.Math.Seq.{ext_get_or}
use borrow.Author.Tests.{lt-ltb, ltb-false}
use Rattle.count.specs.Truth.{one}
use Rattle.count.specs.TruthLaws.{bool}
use Rattle.count.specs.Lists.{up_to, length-rising, getD-rising}
use Rattle.count.specs.Each.{Each}
use Rattle.board.specs.Board.{Board, Within, Edge}
use Rattle.board.specs.Path.{next, along}
use Rattle.board.specs.Degree.{edge?}
use Rattle.board.specs.Tests.{edge_exact}
use Rattle.board.specs.declared.Vertex.{Vertex}
use Rattle.board.specs.declared.Direction.{Direction}
use Rattle.net.specs.Terminals.{same}
use Rattle.routing_rules.specs.Routing.{edges_from, uses, same_edge}
use Rattle.routing_rules.specs.Check.{same_edge_exact}
use Rattle.session_rules.specs.Refusal.{Refusal, line, first_refusal}
use Rattle.call_rules.specs.Report.{directions}
use Rattle.call_rules.proofs.Results.{line_passed}
use Rattle.call_rules.specs.Shape.{RunAt, PathAt}
use Rattle.judge_walk.specs.Slots.{slot, slot_at, edge_at}
use Rattle.judge_walk.specs.EdgeMap.{unused, on_path, net_on, map_of}
use Rattle.judge_walk.specs.MapWalk.{
  Came,
  stopped,
  came,
  then_on,
  unless_at,
  map_steps,
  map_runs,
  map_path,
  map_paths,
}
use Rattle.judge_walk.specs.SlotLaws.{Lies, edge_lies, slot_along, edge_at_lies, slot_edge_at, marked_at}
use Rattle.judge_walk.specs.SameWalk.{further_is}

-- ── a walk that passes ──
pub then_came : {A B : Type 0} (x : Came A) (f : A → List ℕ → Came B) {y : B} {m : List ℕ} → then_on x f ≡ came y m
    → (a : A) × (n : List ℕ) × (x ≡ came a n) × (f a n ≡ came y m)
then_came (stopped r n) f e = absurd (let z : ◌≡◌ {A = ℕ} 0 1 = cc in omega arith)
then_came (came a n) f e = (a, n, refl, e)

pub unless_came : {A : Type 0} (n : List ℕ) (o : Option Refusal) (x : Came A) {y : A} {m : List ℕ} → unless_at n o x ≡ came y m
    → (o ≡ none) × (x ≡ came y m)
unless_came n none x e = (refl, e)
unless_came n (some r) x e = absurd (let z : ◌≡◌ {A = ℕ} 0 1 = cc in omega arith)

-- ── a slot is written once ──
-- DEFINITION: what a slot holds that held x and is given y where it held 0
abbrev keep : ℕ → ℕ → ℕ
keep x y = cond (ltb 0 x) x y

-- DEFINITION: the number k for an edge that is among these
abbrev given : ℕ → Edge → List Edge → ℕ
given k e es = cond (ltb 0 (uses e es)) k 0

keep_none : (x : ℕ) → keep x 0 ≡ x
keep_none x = elim (bool (ltb 0 x)) [ inl t ↦ rw t refl | inr t ↦ rw t (let h = ltb-false 0 x t in omega arith) ]

-- one edge, f, and then others
one_more : {k : ℕ} → 0 < k → (x : ℕ) (e f : Edge) (fs : List Edge) → (same_edge e f ≡ true → x ≡ 0)
    → keep (cond (same_edge e f) k x) (given k e fs) ≡ keep x (given k e (f ∷ fs))
unfolding uses
one_more {k} p x e f fs h = elim (bool (same_edge e f)) [
  | inl t ↦ rw (t, h t, lt-ltb 0 k p, lt-ltb 0 (one true + uses e fs) (omega arith)) refl
  | inr t ↦ let z : one false + uses e fs ≡ uses e fs = omega arith in rw (t, z) refl
]

-- one path, and then others
path_more : {k : ℕ} → 0 < k → (x y : ℕ) (t : Bool) → keep (keep x (cond t k 0)) y ≡ keep x (cond t k y)
path_more {k} p x y t = elim (bool (ltb 0 x)) [
  | inl h ↦ rw (h, h) refl
  | inr h ↦ rw h (go t)
]
  where
    go : (t : Bool) → keep (cond t k 0) y ≡ cond t k y
    go true = rw (lt-ltb 0 k p) refl
    go false = refl

-- DEFINITION: the map m' is the map m with y of an edge at its slot, where that held 0
record Made (m : List ℕ) (y : Edge → ℕ) (m' : List ℕ) : Type 0 where
  pub long : length m' ≡ 2048
  pub holds : (e : Edge) → Lies e → get_or m' (slot e) 0 ≡ keep (get_or m (slot e) 0) (y e)

pub came_same : {A : Type 0} {x y : A} {m n : List ℕ} → came x m ≡ came y n → (x ≡ y) × (m ≡ n)
came_same e = (cc, cc)

module _ {b : Board} (w : Within b) where
  -- a run, with the directions ds to go after it
  steps-made : {k : ℕ} → 0 < k → (i : ℕ) (d : Direction) (n : ℕ) (v : Vertex) (m : List ℕ) → length m ≡ 2048 → {v' : Vertex} {m' : List ℕ}
      → map_steps b k i d n v m ≡ came v' m'
      → (ds : List Direction) → (length m' ≡ 2048) × ((e : Edge) → Lies e
      → keep (get_or m' (slot e) 0) (given k e (edges_from v' ds)) ≡ keep (get_or m (slot e) 0) (given k e (edges_from v (replicate n d ++ ds))))
  unfolding map_steps edges_from
  steps-made p i d zero v m l h ds = let q = came_same h in rw (← q.0, ← q.1) (l, λ e y. refl)
  steps-made {k} p i d (suc n) v m l h ds =
      let passed = unless_came m (first_refusal (line (not (edge? b d v)) 44 i ∷ line (ltb 0 (get_or m (slot_at d v) 0)) 45 i ∷ [])) _ h in
      let first = line_passed (not (edge? b d v)) 44 i (line (ltb 0 (get_or m (slot_at d v) 0)) 45 i ∷ []) passed.0 in
      let free : ltb 0 (get_or m (slot_at d v) 0) ≡ false = (line_passed (ltb 0 (get_or m (slot_at d v) 0)) 45 i [] first.1).0 in
      let on : edge? b d v ≡ true = not-off (edge? b d v) first.0 in
      let x = (edge_exact b d v).0 on in
      let s = slot_along b w d v x in
      let r' = rw (further_is b w d v on, s) at passed.1 in
      let z = steps-made p i d n (next d v) (set m (slot (along d v)) k) (length-set m (slot (along d v)) k ∙ l) r' ds in (
        z.0,
        λ e y. z.1 e y
            ∙ (rw (marked_at m k l e (along d v) y (edge_lies b w (along d v) x))
            (one_more p (get_or m (slot e) 0) e (along d v) (edges_from (next d v) (replicate n d ++ ds))
            (λ t. rw (ap slot ((same_edge_exact e (along d v)).0 t), ← s) (omega (arith, ltb-false 0 (get_or m (slot_at d v) 0) free))))),
      )
    where
      not-off : (t : Bool) → not t ≡ false → t ≡ true
      not-off true e = refl
      not-off false e = sym e

  runs-made : {k : ℕ} → 0 < k → (rs : List RunAt) (v : Vertex) (m : List ℕ) → length m ≡ 2048 → {v' : Vertex} {m' : List ℕ}
      → map_runs b k rs v m ≡ came v' m' → Made m (λ e. given k e (edges_from v (directions rs))) m'
  unfolding map_runs directions edges_from uses
  runs-made p [] v m l h = let q = came_same h in rw (← q.1) (record { long = l; holds = λ e y. sym (keep_none _) })
  runs-made {k} p (r ∷ rs) v m l h =
      let (u, a, f, g) = then_came (map_steps b k r.index r.run.direction r.run.length v m) _ h in
      let s = steps-made p r.index r.run.direction r.run.length v m l f (directions rs) in
      let z = runs-made p rs u a s.0 g in
      record { long = z.long; holds = λ e y. z.holds e y ∙ s.1 e y }

  path-made : (q : PathAt) → 0 < q.net.number → (m : List ℕ) → length m ≡ 2048 → {m' : List ℕ} → map_path b q m ≡ came tt m'
      → Made m (λ e. cond (on_path e q) q.net.number 0) m'
  unfolding map_path on_path
  path-made q p m l h =
      let (u, a, f, g) = then_came (map_runs b q.net.number q.runs q.net.ends.first m) _ h in
      let c = (unless_came a (first_refusal (line (not (same u q.net.ends.second)) 46 q.index ∷ [])) (came tt a) g).1 in
      rw (← (came_same c).1) (runs-made p q.runs q.net.ends.first m l f)

  paths-made : (ps : List PathAt) → Each (λ q. 0 < q.net.number) ps → (m : List ℕ) → length m ≡ 2048 → {m' : List ℕ} → map_paths b ps m ≡ came tt m'
      → Made m (net_on ps) m'
  unfolding map_paths net_on
  paths-made [] p m l h = rw (← (came_same h).1) (record { long = l; holds = λ e y. sym (keep_none _) })
  paths-made (q ∷ qs) p m l h =
      let (u, a, f, g) = then_came (map_path b q m) _ h in
      let s = path-made q p.0 m l f in
      let z = paths-made qs p.1 a s.long g in
      record {
        long = z.long;
        holds = λ e y. z.holds e y ∙ (rw (s.holds e y) (path_more p.0 (get_or m (slot e) 0) (net_on qs e) (on_path e q)));
      }

  -- THE LAW: once the paths have passed, the map is theirs
  pub map-made : (ps : List PathAt) → Each (λ q. 0 < q.net.number) ps → {m : List ℕ} → map_paths b ps unused ≡ came tt m → m ≡ map_of ps
  unfolding map_of
  map-made ps p {m} h =
      let z = paths-made ps p unused (length-replicate {A = ℕ} 2048 0) h in
      ext_get_or 0 m (map (λ s. net_on ps (edge_at s)) (up_to 2048)) (z.long ∙ sym (length-rising (λ s. net_on ps (edge_at s)) 0 2048)) (λ s l.
      let k : s < 2048 = omega (arith, z.long) in
      let y = z.holds (edge_at s) (edge_at_lies s k) in
      let e : 0 + s ≡ s = omega arith in
      let x = rw e at (getD-rising (λ s. net_on ps (edge_at s)) 0 2048 s 0 k) in
      rw (slot_edge_at s k, get_or-replicate {A = ℕ} 2048 s 0 0 k) at y ∙ sym x)
