-- Two shapes with the same lines: the invariant goes over from one to the other. The shape that two arrays of ends of lines hold.
-- Assumes nothing.
use Rattle.std.specs.Prelude.{◌≡◌, refl, Bool, true, false, not, List, ℕ, ◌+◌, ◌-◌, ◌≤◌, ◌<◌, length, get_or, set, eqb}
use Rattle.std.proofs.Common.{ap, ◌∙◌, sym, inl, inr, arith, get_or-set_same, get_or-set_other}
use Rattle.count.specs.TruthLaws.{bool_eq}
use Rattle.count.specs.Bits.{eq_case}
use Rattle.net.specs.declared.Pair.{Pair}
use Rattle.corner.proofs.Tallies.{all_map}
use Rattle.corner.specs.Shape.{Shape, present, Good, Line, At, deg, cap, last, narrow}
use Rattle.corner.proofs.Presence.{present_yes, present_true}
use Rattle.corner.proofs.Flip.{flip}
use Rattle.corner.specs.Trails.{lo, hi}
use Rattle.router_notes.specs.State.{State}
use Rattle.router_notes.specs.Inv.{Inv}

-- DEFINITION: the same lines
pub record Alike (S S' : Shape) : Type 0 where
  pub top : S.top ≡ S'.top
  pub bottom : S.bottom ≡ S'.bottom
  pub a : (l : ℕ) → Line S l → S.a l ≡ S'.a l
  pub b : (l : ℕ) → Line S l → S.b l ≡ S'.b l

module _ (S S' : Shape) (A : Alike S S') where
  line-back : (l : ℕ) → Line S' l → Line S l
  line-back l h = (omega (arith, A.top), omega (arith, A.bottom))

  at_on : (l c : ℕ) → At S l c → At S' l c
  at_on l c h = let k1 = A.top in let k2 = A.bottom in let k3 = A.a l (h.low, h.high) in let k4 = A.b l (h.low, h.high) in
      record { low = omega (arith, h.low); high = omega (arith, h.high); from = omega (arith, h.from); to = omega (arith, h.to) }

  at_back : (l c : ℕ) → At S' l c → At S l c
  at_back l c h = let g = line-back l (h.low, h.high) in let k3 = A.a l g in let k4 = A.b l g in
      record { low = g.0; high = g.1; from = omega (arith, h.from); to = omega (arith, h.to) }

  pub present-alike : (l c : ℕ) → present S l c ≡ present S' l c
  present-alike l c = bool_eq _ _ (λ h. present_yes S' l c (at_on l c (present_true S l c h)))
      (λ h. present_yes S l c (at_back l c (present_true S' l c h)))

  presents : present S ≡ present S'
  presents = λ i l c. present-alike l c i

  pub good-alike : (ps : List Pair) → Good S ps → Good S' ps
  good-alike ps G = let H = G.shaped in let k1 = A.top in let k2 = A.bottom in record {
    shaped = record {
      order = omega (arith, H.order);
      full = λ l h. let g = line-back l h in omega (arith, H.full l g, A.a l g, A.b l g);
      low = omega (arith, H.low);
      thin = λ l h. let g = line-back l h in omega (arith, H.thin l g, A.b l g);
      between_left = λ i j k h1 h2 h3 h4. omega (
        arith,
        H.between_left i j k (omega arith) h2 h3 (omega arith),
        A.a i (omega arith, omega arith),
        A.a j (omega arith, omega arith),
        A.a k (omega arith, omega arith),
      );
      between_right = λ i j k h1 h2 h3 h4. omega (
        arith,
        H.between_right i j k (omega arith) h2 h3 (omega arith),
        A.b i (omega arith, omega arith),
        A.b j (omega arith, omega arith),
        A.b k (omega arith, omega arith),
      );
      nested = λ i j h k. let g = line-back i h in let f = line-back j k in elim (H.nested i j g f) [
        | inl x ↦ inl (omega (arith, x, A.a i g, A.a j f), omega (arith, x, A.b i g, A.b j f))
        | inr x ↦ inr (omega (arith, x, A.a i g, A.a j f), omega (arith, x, A.b i g, A.b j f))
      ];
    };
    stand = all_map (λ v h. at_on v.line v.column h) ps G.stand;
    even = λ l c h. let k = G.even l c (at_back l c h) in (k.0, omega (arith, k.1, ap (λ p. deg p l c) presents), k.2);
    cuts = λ X. let k = G.cuts X in (k.0, omega (arith, k.1, ap (λ p. cap p X) presents));
  }

  pub inv-alike : (s0 s : State) (o : Bool) → Inv s0 s S o → Inv s0 s S' o
  inv-alike s0 s o I = record {
    lead = I.lead;
    fine = I.fine;
    good = good-alike _ I.good;
    link = λ v h. I.link v h ∙ present-alike _ _;
    out =
        I.out;
    frame = I.frame;
  }

-- ── DEFINITION: the shape in the arrays, read downwards or upside down ──
abbrev pub turn_l : Bool → ℕ → ℕ
turn_l false l = l
turn_l true l = last - l

abbrev pub shape_of : (lo hi : List ℕ) (top bottom : ℕ) (o : Bool) → Shape
shape_of lo hi top bottom o = record { top = top; bottom = bottom; a = λ l. get_or lo (turn_l o l) 0; b = λ l. get_or hi (turn_l o l) 0 }

turn_apart : (o : Bool) (l m : ℕ) → l ≤ last → m ≤ last → (l ≡ m → ⊥) → turn_l o l ≡ turn_l o m → ⊥
turn_apart false l m h k n e = n e
turn_apart true l m h k n e = n (omega arith)

-- the code's store narrows the top line
pub narrow_alike : (lo hi : List ℕ) (top bottom : ℕ) (o : Bool) → bottom ≤ last → top ≤ bottom → turn_l o top < length lo
    → Alike (narrow (shape_of lo hi top bottom o)) (shape_of (set lo (turn_l o top) (get_or lo (turn_l o top) 0 + 1)) hi top bottom o)
narrow_alike lo hi top bottom o low ord len = record {
  top = refl;
  bottom = refl;
  a = λ l h. elim (eq_case l top) [
    | inl e ↦ rw e.2 (rw (eq-case-yes top) (sym (get_or-set_same lo (turn_l o top) _ 0 len)))
    | inr e ↦ rw e.0 (add_none _ ∙ sym (get_or-set_other lo (turn_l o top) (turn_l o l) _ 0 (turn_apart o l top (omega arith) (omega arith) e.2)))
  ];
  b = λ l h. refl;
}
  where
    eq-case-yes : (t : ℕ) → eqb t t ≡ true
    eq-case-yes t = elim (eq_case t t) [ inl e ↦ e.0 | inr e ↦ absurd (e.2 refl) ]

    add_none : (x : ℕ) → x + 0 ≡ x
    add_none x = omega arith

pub flip_alike : (lo hi : List ℕ) (top bottom : ℕ) (o : Bool) → top ≤ bottom → bottom ≤ last
    → Alike (flip (shape_of lo hi top bottom o)) (shape_of lo hi (last - bottom) (last - top) (not o))
flip_alike lo hi top bottom false ord low = record { top = refl; bottom = refl; a = λ l h. refl; b = λ l h. refl }
flip_alike lo hi top bottom true ord low = record {
  top = refl;
  bottom = refl;
  a = λ l h. ap (λ k. get_or lo k 0) (let e : last - (last - l) ≡ l = omega arith in e);
  b = λ l h. ap (λ k. get_or hi k 0) (let e : last - (last - l) ≡ l = omega arith in e);
}
