-- Routings that are alike are alike in the older sense: every net uses equally many edges in both.
-- Assumes that they are routings of the same pairs, where no edge is used twice; so it holds of any two lists that pass.
use Rattle.std.specs.Prelude.{◌≡◌, refl, true, false, cond, ℕ, suc, ◌≤◌, ◌<◌, eqb, length}
use Rattle.std.proofs.Common.{ap, sym, inl, inr, arith, eq-eqb}
use mathlib.Core.List.{List, [], ◌∷◌, ◌++◌, flatten}
use Rattle.count.specs.Truth.{one}
use Rattle.count.specs.TruthLaws.{bool, and_yes}
use Rattle.board.specs.Board.{Board, Edge}
use Rattle.board.specs.declared.Direction.{Direction}
use Rattle.net.specs.declared.Pair.{Pair}
use Rattle.routing_rules.specs.Routing.{Joins, edges_from, trails, same_edge, uses, Routing}
use Rattle.routing_rules.specs.Check.{same_edge_exact}
use Rattle.session_rules.specs.Session.{Session, pairs}
use Rattle.call_rules.specs.Result.{yes}
use Rattle.call_rules.specs.Alike.{Alike, equally_many}
use Rattle.call_rules.proofs.AlikeLaws.{Among}
use Rattle.call_rules.specs.Judge.{judged}
use Rattle.routing_laws.proofs.Used.{uses_append, length_edges}
use Rattle.judge_laws.specs.Exact.{passes_sound}

-- DEFINITION: no edge stands twice in the list
abbrev pub Once : List Edge → Type 0
Once es = (e : Edge) → uses e es ≤ 1

-- DEFINITION: the list without an edge, where that first stands
unfoldable without : Edge → List Edge → List Edge
without e [] = []
without e (f ∷ fs) = cond (same_edge e f) fs (f ∷ without e fs)

without_length : (e : Edge) (fs : List Edge) → 0 < uses e fs → length fs ≡ suc (length (without e fs))
unfolding without uses
without_length e [] h = absurd (omega arith)
without_length e (f ∷ fs) h = elim (bool (same_edge e f)) [
  | inl s ↦ rw s refl
  | inr s ↦ rw s (ap suc (without_length e fs (omega (arith, ap one s))))
]

without_other : (e x : Edge) → same_edge x e ≡ false → (fs : List Edge) → uses x (without e fs) ≡ uses x fs
unfolding without uses
without_other e x n [] = refl
without_other e x n (f ∷ fs) = elim (bool (same_edge e f)) [
  | inl s ↦ let q : f ≡ e = sym ((same_edge_exact e f).0 s) in rw (s, q, n) (omega arith)
  | inr s ↦ rw (s, without_other e x n fs) refl
]

-- different edges that are all in a list are at most as many as it has
few_among : (es fs : List Edge) → Once es → Among es fs → length es ≤ length fs
unfolding uses
few_among [] fs o a = omega arith
few_among (e ∷ es) fs o a =
    let s : one (same_edge e e) ≡ 1 = ap one ((same_edge_exact e e).1 refl) in
    let new : uses e es ≡ 0 = omega (arith, o e) in
    let other : (x : Edge) → 0 < uses x es → same_edge x e ≡ false = λ x h. elim (bool (same_edge x e)) [
      | inl t ↦ absurd (let q : uses x es ≡ 0 = rw ((same_edge_exact x e).0 t) new in omega arith)
      | inr t ↦ t
    ] in
    let rest = few_among es (without e fs) (λ x. omega (arith, o x))
    (λ x h. rw (without_other e x (other x h) fs) (a x (omega arith))) in
    omega (arith, without_length e fs (a e (omega arith)))

once_first : (es xs : List Edge) → Once (es ++ xs) → Once es
once_first es xs o e = omega (arith, o e, uses_append e es xs)

pub once_rest : (es xs : List Edge) → Once (es ++ xs) → Once xs
once_rest es xs o e = omega (arith, o e, uses_append e es xs)

equally-many : (b : Board) (ps : List Pair) (dss ess : List (List Direction)) → Joins b ps dss → Joins b ps ess
    → Once (flatten (trails ps dss)) → Once (flatten (trails ps ess)) → Alike (trails ps dss) (trails ps ess) → equally_many dss ess ≡ true
unfolding trails flatten equally_many
equally-many b [] [] [] i j o q h = refl
equally-many b [] [] (es ∷ ess) i j o q h = absurd j
equally-many b [] (ds ∷ dss) ess i j o q h = absurd i
equally-many b (p ∷ ps) [] ess i j o q h = absurd i
equally-many b (p ∷ ps) (ds ∷ dss) [] i j o q h = absurd j
equally-many b (p ∷ ps) (ds ∷ dss) (es ∷ ess) i j o q h =
    let xs = edges_from p.first ds in
    let ys = edges_from p.first es in
    let less = few_among xs ys (once_first xs (flatten (trails ps dss)) o) (λ e. (h.0 e).0) in
    let more = few_among ys xs (once_first ys (flatten (trails ps ess)) q) (λ e. (h.0 e).1) in
    and_yes (eqb (length ds) (length es)) (equally_many dss ess)
    (eq-eqb (length ds) (length es) (omega (arith, length_edges p.first ds, length_edges p.first es)))
    (equally-many b ps dss ess i.1 j.1 (once_rest xs (flatten (trails ps dss)) o) (once_rest ys (flatten (trails ps ess)) q) h.1)

-- THE LAW: two routings of the same pairs that are alike were alike in the older sense
pub routings_equally_many : (b : Board) (ps : List Pair) (dss ess : List (List Direction)) → Routing b ps dss → Routing b ps ess
    → Alike (trails ps dss) (trails ps ess) → equally_many dss ess ≡ true
routings_equally_many b ps dss ess r t = equally-many b ps dss ess r.joins t.joins r.once t.once

-- THE LAW: and so were any two lists that pass
pub judged_equally_many : (s : Session) (vs ws : List ℕ) (dss ess : List (List Direction)) → judged s vs ≡ yes dss → judged s ws ≡ yes ess
    → Alike (trails (pairs s.nets) dss) (trails (pairs s.nets) ess) → equally_many dss ess ≡ true
judged_equally_many s vs ws dss ess e f =
    routings_equally_many s.block.board (pairs s.nets) dss ess (passes_sound s vs dss e).routing (passes_sound s ws ess f).routing
