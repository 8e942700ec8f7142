-- Trails that are pairwise edge-disjoint, but may use their own edges again, give a routing that uses no edge twice; and a routing is such trails.
-- Assumes nothing.
use Rattle.std.specs.Prelude.{◌≡◌, refl, Bool, List, [], ◌∷◌, ◌≤◌, min}
use Rattle.std.proofs.Common.{ap, sym, subst, inl, inr, arith}
use Rattle.count.specs.Truth.{one}
use Rattle.count.specs.TruthLaws.{bool, le_or_lt}
use Rattle.board.specs.declared.Vertex.{Vertex}
use Rattle.net.specs.declared.Pair.{Pair}
use Rattle.corner.specs.Trails.{Link, lo, hi, same_link, Walk, used, Trails, total, sharers, Routed, Disjoint}
use Rattle.corner.proofs.TrailLaws.{link_true}

-- ── a routing is disjoint ──
sharers_total : (e : Link) (ps : List Pair) (ts : Trails ps) → sharers e ps ts ≤ total e ps ts
unfolding sharers total
sharers_total e [] ts = omega arith
sharers_total e (p ∷ ps) ts = omega (arith, sharers_total e ps ts.1)

pub disjoint : (J : Link → Bool) (ps : List Pair) → Routed J ps → Disjoint J ps
disjoint J ps R = record { trails = R.trails; once = λ e. omega (arith, sharers_total e ps R.trails, R.once e) }

-- ── loops are left out ──
-- what is left of a walk from one end of an edge on that it uses
abbrev Rest : Vertex → Vertex → List Link → Type 0
Rest u v es = (fs : List Link) × Walk u fs v × ((f : Link) → used f fs ≤ used f es)

rest_from : (e : Link) (u v : Vertex) (es : List Link) → Walk u es v → 1 ≤ used e es → Rest (lo e) v es × Rest (hi e) v es
unfolding used
rest_from e u v [] w h = absurd (omega arith)
rest_from e u v (f ∷ es) (inl w) h = elim (bool (same_link e f)) [
  | inl q ↦ let p = link_true e f q in (
    (f ∷ es, subst (λ x. Walk (lo x) (f ∷ es) v) (sym p) (inl (refl, w.1)), λ g. omega arith),
    (es, subst (λ x. Walk (hi x) es v) (sym p) w.1, λ g. omega arith),
  )
  | inr q ↦ let r = rest_from e (hi f) v es w.1 (omega (arith, ap one q)) in
      ((r.0.0, r.0.1, λ g. omega (arith, r.0.2 g)), (r.1.0, r.1.1, λ g. omega (arith, r.1.2 g)))
]
rest_from e u v (f ∷ es) (inr w) h = elim (bool (same_link e f)) [
  | inl q ↦ let p = link_true e f q in (
    (es, subst (λ x. Walk (lo x) es v) (sym p) w.1, λ g. omega arith),
    (f ∷ es, subst (λ x. Walk (hi x) (f ∷ es) v) (sym p) (inr (refl, w.1)), λ g. omega arith),
  )
  | inr q ↦ let r = rest_from e (lo f) v es w.1 (omega (arith, ap one q)) in
      ((r.0.0, r.0.1, λ g. omega (arith, r.0.2 g)), (r.1.0, r.1.1, λ g. omega (arith, r.1.2 g)))
]

-- a walk that uses no edge twice, and none that the given one does not use
abbrev Short : Vertex → Vertex → List Link → Type 0
Short u v es = (fs : List Link) × Walk u fs v × ((f : Link) → used f fs ≤ min 1 (used f es))

once_more : (e : Link) (fs es : List Link) → used e fs ≡ 0 → ((f : Link) → used f fs ≤ min 1 (used f es)) → (f : Link)
    → used f (e ∷ fs) ≤ min 1 (used f (e ∷ es))
unfolding used
once_more e fs es z h f = elim (bool (same_link f e)) [
  | inl q ↦ let p : used f fs ≡ used e fs = ap (λ g. used g fs) (link_true f e q) in omega (arith, ap one q)
  | inr q ↦ omega (arith, ap one q, h f)
]

fewer_uses : (e : Link) (fs gs es : List Link) → ((f : Link) → used f gs ≤ used f fs) → ((f : Link) → used f fs ≤ min 1 (used f es)) → (f : Link)
    → used f gs ≤ min 1 (used f (e ∷ es))
unfolding used
fewer_uses e fs gs es h k f = omega (arith, h f, k f)

shorten : (u v : Vertex) (es : List Link) → Walk u es v → Short u v es
unfolding used
shorten u v [] w = ([], w, λ f. omega arith)
shorten u v (e ∷ es) (inl w) = let s = shorten (hi e) v es w.1 in elim (le_or_lt (used e s.0) 0) [
  | inl z ↦ (e ∷ s.0, inl (w.0, s.1), once_more e s.0 es (omega arith) s.2)
  | inr z ↦ let r = (rest_from e (hi e) v s.0 s.1 z).0 in
      (r.0, subst (λ x. Walk x r.0 v) (sym w.0) r.1, fewer_uses e s.0 r.0 es r.2 s.2)
]
shorten u v (e ∷ es) (inr w) = let s = shorten (lo e) v es w.1 in elim (le_or_lt (used e s.0) 0) [
  | inl z ↦ (e ∷ s.0, inr (w.0, s.1), once_more e s.0 es (omega arith) s.2)
  | inr z ↦ let r = (rest_from e (lo e) v s.0 s.1 z).1 in
      (r.0, subst (λ x. Walk x r.0 v) (sym w.0) r.1, fewer_uses e s.0 r.0 es r.2 s.2)
]

shorten_all : (ps : List Pair) (ts : Trails ps) → (us : Trails ps) × ((e : Link) → total e ps us ≤ sharers e ps ts)
unfolding total sharers
shorten_all [] ts = (tt, λ e. omega arith)
shorten_all (p ∷ ps) ts =
    let s = shorten p.first p.second ts.0.0 ts.0.1 in let r = shorten_all ps ts.1 in
    (((s.0, s.1), r.0), λ e. omega (arith, s.2 e, r.1 e))

pub tidy : (J : Link → Bool) (ps : List Pair) → Disjoint J ps → Routed J ps
tidy J ps D = let s = shorten_all ps D.trails in record { trails = s.0; once = λ e. omega (arith, s.1 e, D.once e) }
