-- The cut condition is necessary: pairwise edge-disjoint trails use different edges of each cut that they cross.
-- Assumes only that the set J of unit edges lies in the frame; it need not be that of a convex board, nor of an even one.
use Rattle.std.specs.Prelude.{◌≡◌, refl, Bool, true, false, ◌⊎◌}
use Rattle.std.proofs.Common.{ap, ◌∙◌, sym, subst, inl, inr}
use mathlib.Core.List.{List, [], ◌∷◌}
use Prim.Native.Nat.{ℕ, suc, ◌≤◌, ◌<◌, min}
use native.Mathlib.Omega.{arith}
use Rattle.count.specs.Truth.{one}
use Rattle.count.specs.TruthLaws.{and_true, one_le}
use Rattle.count.specs.Sum.{sum, sum_eq}
use Rattle.board.specs.declared.Vertex.{Vertex}
use Rattle.net.specs.declared.Pair.{Pair}
use Rattle.cut.specs.declared.Cut.{Cut}
use Rattle.cut.specs.declared.Cut.TheVariants.{Row, Column}
use Rattle.cut.specs.Cut.{side}
use Rattle.count.specs.Bits.{eq_case, one_true, leb_next}
use Rattle.count.specs.Sums.{sum_le, sum_add, sum_get}
use Rattle.corner.specs.Pairs.{apart, tally, leaving}
use Rattle.corner.proofs.Apart.{apart_same, apart_le}
use Rattle.corner.specs.Shape.{size, Shape, present, cap, Shaped}
use Rattle.corner.specs.Placed.{CutCondition}
use Rattle.corner.proofs.Presence.{present_true}
use Rattle.corner.specs.Trails.{Link, hor, ver, lo, hi, joined, Walk, used, Trails, sharers, Disjoint, slot, cap_of, InFrame}
use Rattle.corner.proofs.TrailLaws.{link_self}

differ : (a b : Bool) → (a ≡ b) ⊎ (a ≡ b → ⊥)
differ true true = inl refl
differ true false = inr (λ e. let z : ◌≡◌ {A = ℕ} 1 0 = ap one e in omega arith)
differ false true = inr (λ e. let z : ◌≡◌ {A = ℕ} 0 1 = ap one e in omega arith)
differ false false = inl refl

-- a unit edge of the list that leads from one side to the other
abbrev Over : (Vertex → Bool) → List Link → Type 0
Over X es = (e : Link) × (1 ≤ used e es) × (X (lo e) ≡ X (hi e) → ⊥)

over_link : (X : Vertex → Bool) (u v : Vertex) (es : List Link) → Walk u es v → (X u ≡ X v) ⊎ Over X es
unfolding used
over_link X u v [] w = inl (ap X w)
over_link X u v (e ∷ es) (inl w) = elim (differ (X (lo e)) (X (hi e))) [
  | inr d ↦ inr (e, omega (arith, ap one (link_self e)), d)
  | inl d ↦ elim (over_link X (hi e) v es w.1) [
    | inl q ↦ inl (ap X w.0 ∙ d ∙ q)
    | inr f ↦ inr (f.0, omega (arith, f.1), f.2)
  ]
]
over_link X u v (e ∷ es) (inr w) = elim (differ (X (lo e)) (X (hi e))) [
  | inr d ↦ inr (e, omega (arith, ap one (link_self e)), d)
  | inl d ↦ elim (over_link X (lo e) v es w.1) [
    | inl q ↦ inl (ap X w.0 ∙ sym d ∙ q)
    | inr f ↦ inr (f.0, omega (arith, f.1), f.2)
  ]
]

pub cap_of_ext : (J K : Link → Bool) → ((e : Link) → J e ≡ K e) → (X : Cut) → cap_of J X ≡ cap_of K X
unfolding cap_of
cap_of_ext J K h X = sum_eq size (λ i. one (J (slot X i))) (λ i. one (K (slot X i))) (λ i l. ap one (h (slot X i)))

pub cap-of : (S : Shape) (X : Cut) → cap (present S) X ≡ cap_of (joined S) X
unfolding cap cap_of
cap-of S (Row r) = refl
cap-of S (Column x) = refl

pub joined_frame : (S : Shape) → Shaped S → InFrame (joined S)
joined_frame S G (hor l c) j =
    let k = present_true S l c (and_true (present S l c) (present S l (suc c)) j).0 in
    (omega (arith, k.high, G.low), omega (arith, k.to, G.thin l (k.low, k.high)))
joined_frame S G (ver l c) j =
    let k = present_true S l c (and_true (present S l c) (present S (suc l) c) j).0 in
    (omega (arith, k.high, G.low), omega (arith, k.to, G.thin l (k.low, k.high)))

-- a unit edge over the cut is one of the cut's
over_slot : (X : Cut) (e : Link) → ((lo e).line < size) × ((lo e).column < size) → (side X (lo e) ≡ side X (hi e) → ⊥)
    → (i : ℕ) × (i < size) × (e ≡ slot X i)
over_slot (Row r) (hor l c) f d = absurd (d refl)
over_slot (Row r) (ver l c) f d = (c, f.1, elim (eq_case r l) [ inl e ↦ ap (λ m. ver m c) (sym e.2) | inr e ↦ absurd (d (leb_next l r e.2)) ])
over_slot (Column x) (hor l c) f d = (
  l,
  f.0,
  elim (eq_case x c)
      [ inl e ↦ ap (λ m. hor l m) (sym e.2) | inr e ↦ absurd (d (leb_next c x e.2)) ],
)
over_slot (Column x) (ver l c) f d = absurd (d refl)

module _ (J : Link → Bool) (F : InFrame J) (X : Cut) where
  one-trail : (u v : Vertex) (es : List Link) → Walk u es v → ((e : Link) → min 1 (used e es) ≤ one (J e))
      → apart (side X u) (side X v) ≤ sum size (λ i. min 1 (used (slot X i) es))
  one-trail u v es w h = elim (over_link (side X) u v es w) [
    | inl q ↦ omega (arith, apart_same (side X u) (side X v) q)
    | inr f ↦
        let k = over_slot X f.0 (F f.0 (one_true (J f.0) (omega (arith, h f.0, f.1, one_le (J f.0))))) f.2 in
        let c : 1 ≤ used (slot X k.0) es = subst (λ e. 1 ≤ used e es) k.2 f.1 in
        omega (arith, apart_le (side X u) (side X v), sum_get size k.0 (λ i. min 1 (used (slot X i) es)) k.1)
  ]

  all-trails : (ps : List Pair) (ts : Trails ps) → ((e : Link) → sharers e ps ts ≤ one (J e))
      → leaving (side X) ps ≤ sum size (λ i. sharers (slot X i) ps ts)
  unfolding leaving tally sharers
  all-trails [] ts h = omega arith
  all-trails (p ∷ ps) ts h = omega (
    arith,
    one-trail p.first p.second ts.0.0 ts.0.1 (λ e. omega (arith, h e)),
    all-trails ps ts.1 (λ e. omega (arith, h e)),
    sum_add size (λ i. min 1 (used (slot X i) ts.0.0)) (λ i. sharers (slot X i) ps ts.1),
  )

  pub cut-needed : (ps : List Pair) → Disjoint J ps → leaving (side X) ps ≤ cap_of J X
  unfolding cap_of
  cut-needed ps D = omega (
    arith,
    all-trails ps D.trails D.once,
    sum_le size (λ i. sharers (slot X i) ps D.trails) (λ i. one (J (slot X i))) (λ i h. D.once (slot X i)),
  )

-- on a shape
pub cuts_needed : (S : Shape) (ps : List Pair) → Shaped S → Disjoint (joined S) ps → CutCondition S ps
cuts_needed S ps G D X = omega (arith, cut-needed (joined S) (joined_frame S G) X ps D, cap-of S X)
