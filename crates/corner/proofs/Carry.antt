-- A map of the vertices that keeps edges keeps routings: stated once, for turning upside down, the mirror and the quarter turn.
-- Assumes of the map that edges go to edges, ends to ends, and that it can be undone.
use Rattle.std.specs.Prelude.{◌≡◌, Bool, false, ◌≤◌}
use Rattle.std.proofs.Math.Path.{refl, ap, subst}
use Rattle.std.proofs.Common.{◌∙◌, sym}
use Rattle.std.proofs.Math.Bool.{true}
use mathlib.Core.List.{List, [], ◌∷◌}
use Rattle.std.proofs.Math.Logic.{inl, inr}
use native.Mathlib.Omega.{arith}
use Rattle.count.specs.Truth.{one}
use Rattle.count.specs.TruthLaws.{bool, clash, not_true, one_le}
use Rattle.board.specs.declared.Vertex.{Vertex}
use Rattle.net.specs.declared.Pair.{Pair}
use Rattle.count.specs.Each.{Each}
use Rattle.count.specs.Bits.{one_true, one_imply}
use Rattle.corner.specs.Pairs.{maps}
use Rattle.corner.specs.Trails.{Link, lo, hi, Ends, same_link, Walk, used, Trails, total, Routed}
use Rattle.corner.proofs.TrailLaws.{link_self, link_true}

pub every_there : (J : Link → Bool) (es : List Link) → ((e : Link) → used e es ≤ one (J e)) → Each (λ e. J e ≡ true) es
unfolding used
every_there J [] h = tt
every_there J (e ∷ es) h = (one_true _ (omega (arith, h e, ap one (link_self e), one_le (J e))), every_there J es (λ f. omega (arith, h f)))

-- g maps vertices, k unit edges, and j undoes k; all on the edges of J' only
module _ (J J' : Link → Bool) (g : Vertex → Vertex) (k j : Link → Link)
    (lands : (e : Link) → J' e ≡ true → J (k e) ≡ true)
    (ends-kept : (e : Link) → J' e ≡ true → Ends (g (lo e)) (g (hi e)) (k e))
    (undo : (f : Link) → J' f ≡ true → j (k f) ≡ f) where
  abbrev In : Link → Type 0
  In e = J' e ≡ true

  unfoldable carried : List Link → List Link
  carried [] = []
  carried (e ∷ es) = k e ∷ carried es

  walk-on : (u v : Vertex) (es : List Link) → Each In es → Walk u es v → Walk (g u) (carried es) (g v)
  unfolding carried
  walk-on u v [] a w = ap g w
  walk-on u v (e ∷ es) a (inl w) = let r = walk-on (hi e) v es a.1 w.1 in elim (ends-kept e a.0) [
    | inl h ↦ inl (ap g w.0 ∙ h.0, subst (λ t. Walk t (carried es) (g v)) h.1 r)
    | inr h ↦ inr (ap g w.0 ∙ h.0, subst (λ t. Walk t (carried es) (g v)) h.1 r)
  ]
  walk-on u v (e ∷ es) a (inr w) = let r = walk-on (lo e) v es a.1 w.1 in elim (ends-kept e a.0) [
    | inl h ↦ inr (ap g w.0 ∙ h.1, subst (λ t. Walk t (carried es) (g v)) h.0 r)
    | inr h ↦ inl (ap g w.0 ∙ h.1, subst (λ t. Walk t (carried es) (g v)) h.0 r)
  ]

  same-on : (e f : Link) → In f → one (same_link e (k f)) ≤ one (same_link (j e) f)
  same-on e f h = one_imply _ _ (λ s. subst (λ x. same_link (j e) x ≡ true) (ap j (link_true e (k f) s) ∙ undo f h) (link_self (j e)))

  used-on : (e : Link) (es : List Link) → Each In es → used e (carried es) ≤ used (j e) es
  unfolding used carried
  used-on e [] a = omega arith
  used-on e (f ∷ es) a = omega (arith, same-on e f a.0, used-on e es a.1)

  used-none : (e : Link) → J e ≡ false → (es : List Link) → Each In es → used e (carried es) ≡ 0
  unfolding used carried
  used-none e n [] a = refl
  used-none e n (f ∷ es) a = omega (
    arith,
    used-none e n es a.1,
    ap one (not_true (same_link e (k f)) (λ h.
        let p = link_true e (k f) h in
        let y : J e ≡ true = subst (λ x. J x ≡ true) (sym p) (lands f a.0) in
        clash y n)),
  )

  trails-on : (ps : List Pair) (ts : Trails ps) → ((e : Link) → total e ps ts ≤ one (J' e))
      → (us : Trails (maps g ps)) × ((e : Link) → total e (maps g ps) us ≤ total (j e) ps ts)
      × ((e : Link) → J e ≡ false → total e (maps g ps) us ≡ 0)
  unfolding total
  trails-on [] ts h = (tt, (λ e. omega arith), λ e n. refl)
  trails-on (p ∷ ps) ts h =
      let r = trails-on ps ts.1 (λ e. omega (arith, h e)) in
      let a = every_there J' ts.0.0 (λ e. omega (arith, h e)) in (
        ((carried ts.0.0, walk-on p.first p.second ts.0.0 a ts.0.1), r.0),
        (λ e. omega (arith, r.1 e, used-on e ts.0.0 a)),
        λ e n. omega (arith, r.2 e n, used-none e n ts.0.0 a),
      )

  pub carry : (ps : List Pair) → Routed J' ps → Routed J (maps g ps)
  carry ps R = let t = trails-on ps R.trails R.once in
      record {
        trails = t.0;
        once = λ e. elim (bool (J e)) [
          | inl y ↦ omega (arith, t.1 e, R.once (j e), one_le (J' (j e)), ap one y)
          | inr n ↦ omega (arith, t.2 e n)
        ];
      }
