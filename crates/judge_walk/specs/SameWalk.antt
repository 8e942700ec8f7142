-- On a board within the limits the walk with a map is the walk of document 01: it is refused alike, or both go on.
-- Assumes that the board is within the limits and that the nets have numbers above 0.
use Rattle.std.specs.Prelude.{◌≡◌, Bool, true, cond, not, length, get_or, set}
use Rattle.std.proofs.Math.Path.{refl}
use Rattle.std.proofs.Common.{sym, ◌∙◌, arith, length-set, lt-ltb}
use Rattle.std.proofs.Math.Bool.{false}
use mathlib.Core.List.{List, [], ◌∷◌}
use Rattle.std.proofs.Math.Logic.{inl, inr}
use Rattle.std.proofs.Math.Option.{Option, none, some}
use Prim.Native.Nat.{ℕ, zero, suc, ◌+◌, ◌<◌, min}
use Rattle.std.proofs.Math.Dec.{ltb}
use Rattle.std.proofs.lemmas.List.{length-replicate, get_or-replicate}
use Rattle.count.specs.Truth.{one}
use Rattle.count.specs.TruthLaws.{bool}
use Rattle.count.specs.Each.{Each}
use Rattle.board.specs.Board.{Board, Within, Edge}
use Rattle.board.specs.Path.{next, along}
use Rattle.board.specs.Degree.{edge?}
use Rattle.board.specs.Tests.{edge_exact}
use Rattle.board.specs.declared.Vertex.{Vertex}
use Rattle.board.specs.declared.Direction.{Direction}
use Rattle.board.specs.declared.Direction.TheVariants.{Up, Right, Down, Left}
use Rattle.net.specs.Terminals.{same}
use Rattle.routing_rules.specs.Routing.{uses, same_edge}
use Rattle.session_rules.specs.Refusal.{Refusal, line, first_refusal}
use Rattle.call_rules.specs.Result.{Result, no, yes, and_then, unless}
use Rattle.call_rules.specs.Shape.{RunAt, PathAt}
use Rattle.call_rules.specs.Walk.{Walker, walk_steps, walk_runs, walk_path, walk_paths}
use Rattle.judge_walk.specs.Slots.{slot, slot_at}
use Rattle.judge_walk.specs.EdgeMap.{unused}
use Rattle.judge_walk.specs.MapWalk.{
  Came,
  stopped,
  came,
  then_on,
  unless_at,
  further,
  map_steps,
  map_runs,
  map_path,
  map_paths,
}
use Rattle.judge_walk.specs.SlotLaws.{Lies, edge_lies, slot_small, slot_along, marked_at}

abbrev walker : Vertex → List Edge → Walker
walker v used = record { place = v; used = used }

-- DEFINITION: the map is above 0 just at the slots of the used edges
pub record Marks (used : List Edge) (m : List ℕ) : Type 0 where
  pub long : length m ≡ 2048
  pub says : (e : Edge) → Lies e → ltb 0 (get_or m (slot e) 0) ≡ ltb 0 (uses e used)

-- DEFINITION: refused alike, or both go on, to values of which P holds
abbrev pub Agree : {A B : Type 0} → (A → List ℕ → B → Type 0) → Came A → Result B → Type 0
Agree P (stopped r m) (no s) = r ≡ s
Agree P (stopped r m) (yes y) = ⊥
Agree P (came x m) (no s) = ⊥
Agree P (came x m) (yes y) = P x m y

then_agree : {A B C D : Type 0} (P : A → List ℕ → B → Type 0) (Q : C → List ℕ → D → Type 0) (f : A → List ℕ → Came C) (g : B → Result D)
    (x : Came A) (y : Result B) → Agree P x y → ((a : A) (m : List ℕ) (b : B) → P a m b → Agree Q (f a m) (g b)) → Agree Q (then_on x f) (and_then y g)
then_agree P Q f g (stopped r m) (no s) h k = h
then_agree P Q f g (stopped r m) (yes y) h k = absurd h
then_agree P Q f g (came x m) (no s) h k = absurd h
then_agree P Q f g (came x m) (yes y) h k = k x m y h

unless_agree : {A B : Type 0} (P : A → List ℕ → B → Type 0) (o : Option Refusal) (m : List ℕ) (x : Came A) (y : Result B) → Agree P x y
    → Agree P (unless_at m o x) (unless o y)
unless_agree P none m x y h = h
unless_agree P (some r) m x y h = refl

-- ── marks ──
pub marks_none : Marks [] unused
unfolding uses
marks_none = record { long = length-replicate {A = ℕ} 2048 0; says = λ e h. rw (get_or-replicate {A = ℕ} 2048 (slot e) 0 0 (slot_small e)) refl }

marks_more : {k : ℕ} → 0 < k → {used : List Edge} {m : List ℕ} (f : Edge) → Lies f → Marks used m → Marks (f ∷ used) (set m (slot f) k)
unfolding uses
marks_more {k} p {used} {m} f l h = record {
  long = length-set m (slot f) k ∙ h.long;
  says = λ e q. rw (marked_at m k h.long e f q l) (go e q (same_edge e f));
}
  where
    go : (e : Edge) → Lies e → (t : Bool) → ltb 0 (cond t k (get_or m (slot e) 0)) ≡ ltb 0 (one t + uses e used)
    go e q true = lt-ltb 0 k p ∙ sym (lt-ltb 0 (one true + uses e used) (omega arith))
    go e q false = let z : one false + uses e used ≡ uses e used = omega arith in rw z (h.says e q)

-- ── an edge of the board ──
pub further_is : (b : Board) → Within b → (d : Direction) (v : Vertex) → edge? b d v ≡ true → further d v ≡ next d v
further_is b w d v e = go d (edge_lies b w (along d v) ((edge_exact b d v).0 e))
  where
    go : (d : Direction) → Lies (along d v) → further d v ≡ next d v
    go Up l = refl
    go Right l = let z : min 255 (suc v.column) ≡ suc v.column = omega (arith, l.column) in rw z refl
    go Down l = let z : min 255 (suc v.line) ≡ suc v.line = omega (arith, l.line) in rw z refl
    go Left l = refl

-- DEFINITION: both stand at one place
abbrev Both : Vertex → List ℕ → Walker → Type 0
Both v m x = (x.place ≡ v) × Marks x.used m

module _ {b : Board} (w : Within b) {k : ℕ} (p : 0 < k) where
  steps-same : (i : ℕ) (d : Direction) (n : ℕ) (v : Vertex) (used : List Edge) (m : List ℕ) → Marks used m
      → Agree Both (map_steps b k i d n v m) (walk_steps b i d n (walker v used))
  unfolding map_steps walk_steps
  steps-same i d zero v used m h = (refl, h)
  steps-same i d (suc n) v used m h = elim (bool (edge? b d v)) [
    | inr e ↦ rw e refl
    | inl e ↦
        let x = (edge_exact b d v).0 e in
        let l = edge_lies b w (along d v) x in
        let s = slot_along b w d v x in
        let q : ltb 0 (get_or m (slot_at d v) 0) ≡ ltb 0 (uses (along d v) used) = rw s (h.says (along d v) l) in
        rw (e, q, further_is b w d v e, s)
        (unless_agree Both (first_refusal (line false 44 i ∷ line (ltb 0 (uses (along d v) used)) 45 i ∷ [])) m _ _
        (steps-same i d n (next d v) (along d v ∷ used) (set m (slot (along d v)) k) (marks_more p (along d v) l h)))
  ]

  runs_same : (rs : List RunAt) (v : Vertex) (used : List Edge) (m : List ℕ) → Marks used m
      → Agree Both (map_runs b k rs v m) (walk_runs b rs (walker v used))
  unfolding map_runs walk_runs
  runs_same [] v used m h = (refl, h)
  runs_same (r ∷ rs) v used m h =
      then_agree Both Both (map_runs b k rs) (walk_runs b rs)
      (map_steps b k r.index r.run.direction r.run.length v m)
      (walk_steps b r.index r.run.direction r.run.length (walker v used))
      (steps-same r.index r.run.direction r.run.length v used m h)
      (λ u a x y. rw (← y.0) (runs_same rs x.place x.used a y.1))

-- DEFINITION: the map marks what the walk of document 01 has used
abbrev pub Marked : Unit {0} → List ℕ → List Edge → Type 0
Marked u m used = Marks used m

path_same : {b : Board} → Within b → (q : PathAt) → 0 < q.net.number → (used : List Edge) (m : List ℕ) → Marks used m
    → Agree Marked (map_path b q m) (walk_path b q used)
unfolding map_path walk_path
path_same {b} w q p used m h =
    then_agree Both Marked
    (λ v a. unless_at a (missed v) (came tt a))
    (λ x. unless (missed x.place) (yes x.used))
    (map_runs b q.net.number q.runs q.net.ends.first m)
    (walk_runs b q.runs (walker q.net.ends.first used))
    (runs_same w p q.runs q.net.ends.first used m h)
    (λ u a x y. rw y.0 (unless_agree Marked (missed u) a (came tt a) (yes x.used) y.1))
  where
    missed : Vertex → Option Refusal
    missed v = first_refusal (line (not (same v q.net.ends.second)) 46 q.index ∷ [])

-- THE LAW: all paths
pub paths_same : {b : Board} → Within b → (ps : List PathAt) → Each (λ q. 0 < q.net.number) ps → (used : List Edge) (m : List ℕ) → Marks used m
    → Agree Marked (map_paths b ps m) (walk_paths b ps used)
unfolding map_paths walk_paths
paths_same w [] p used m h = h
paths_same {b} w (q ∷ qs) p used m h =
    then_agree Marked Marked (λ u a. map_paths b qs a) (walk_paths b qs) (map_path b q m) (walk_path b q used) (path_same w q p.0 used m h)
    (λ u a x y. paths_same w qs p.1 x a y)
