-- Taking one pair out of a list: what it does to the counts, how a pair is found, and pairs whose ends differ.
-- Assumes nothing.
use Rattle.std.specs.Prelude.{◌≡◌, refl, Bool, true, false, List, [], ◌∷◌, ◌⊎◌, ℕ, zero, suc, ◌+◌, ◌≤◌, ◌<◌}
use Rattle.std.proofs.Common.{ap, ◌∙◌, sym, subst, inl, inr, arith}
use Rattle.count.specs.Truth.{one}
use Rattle.count.specs.TruthLaws.{bool, clash}
use Rattle.board.specs.declared.Vertex.{Vertex}
use Rattle.net.specs.declared.Pair.{Pair}
use Rattle.net.specs.Terminals.{same}
use Rattle.corner.specs.Pairs.{pair, apart, both, tally, All, leaving, inside, standing, hits, Proper, Take, here, back, there, Found}
use Rattle.net.specs.Same.{same_true, same_self, same_sym}
use Rattle.corner.proofs.Apart.{apart_sym, both_sym}
use Rattle.corner.proofs.Tallies.{standing_split}

pub tally_take : (f : Vertex → Vertex → ℕ) → ((u v : Vertex) → f u v ≡ f v u) → (u v : Vertex) {ps rest : List Pair} → Take u v ps rest
    → tally f ps ≡ f u v + tally f rest
unfolding tally
tally_take f s u v here = refl
tally_take f s u v back = omega (arith, s u v)
tally_take f s u v (there t) = omega (arith, tally_take f s u v t)

pub all_take : (P : Vertex → Type 0) (u v : Vertex) {ps rest : List Pair} → Take u v ps rest → All P ps → P u × P v × All P rest
all_take P u v here a = a
all_take P u v back a = (a.1, a.0, a.2)
all_take P u v (there t) a = let k = all_take P u v t a.2 in (k.0, k.1, (a.0, a.1, k.2))

pub leaving_take : (X : Vertex → Bool) (u v : Vertex) {ps rest : List Pair} → Take u v ps rest → leaving X ps ≡ apart (X u) (X v) + leaving X rest
unfolding leaving
leaving_take X u v t = tally_take (λ u v. apart (X u) (X v)) (λ u v. apart_sym (X u) (X v)) u v t

pub standing_take : (X : Vertex → Bool) (u v : Vertex) {ps rest : List Pair} → Take u v ps rest
    → standing X ps ≡ one (X u) + one (X v) + standing X rest
unfolding standing
standing_take X u v t = tally_take (λ u v. one (X u) + one (X v)) (λ u v. omega arith) u v t

pub inside_take : (X : Vertex → Bool) (u v : Vertex) {ps rest : List Pair} → Take u v ps rest → inside X ps ≡ both (X u) (X v) + inside X rest
unfolding inside
inside_take X u v t = tally_take (λ u v. both (X u) (X v)) (λ u v. both_sym (X u) (X v)) u v t

pub take_swap : (a s b t : Vertex) {ps r1 r2 : List Pair} → Take a s ps r1 → Take b t r1 r2 → (r : List Pair) × Take b t ps r × Take a s r r2
take_swap a s b t {r2 = r2} here k = (pair a s ∷ r2, there k, here)
take_swap a s b t {r2 = r2} back k = (pair s a ∷ r2, there k, back)
take_swap a s b t (there {ps = ps} h) here = (ps, here, h)
take_swap a s b t (there {ps = ps} h) back = (ps, back, h)
take_swap a s b t (there {p = p} h) (there k) = let i = take_swap a s b t h k in (p ∷ i.0, there i.1, there i.2)

-- ── finding a pair that passes a test ──
choose_here : (f : Vertex → Vertex → Bool) (p : Pair) (ps : List Pair)
    → (f p.first p.second ≡ true) ⊎ (f p.first p.second ≡ false)
    → (f p.second p.first ≡ true) ⊎ (f p.second p.first ≡ false)
    → (hits f ps ≡ 0) ⊎ Found f ps → (hits f (p ∷ ps) ≡ 0) ⊎ Found f (p ∷ ps)
unfolding hits tally
choose_here f p ps (inl e) d r = inr (p.first, p.second, ps, here, e)
choose_here f p ps (inr e) (inl d) r = inr (p.second, p.first, ps, back, d)
choose_here f p ps (inr e) (inr d) (inl r) = inl (omega (arith, ap one e, ap one d))
choose_here f p ps (inr e) (inr d) (inr r) = inr (r.0, r.1, p ∷ r.2, there r.3, r.4)

pub choose : (f : Vertex → Vertex → Bool) (ps : List Pair) → (hits f ps ≡ 0) ⊎ Found f ps
unfolding hits tally
choose f [] = inl refl
choose f (p ∷ ps) = choose_here f p ps (bool _) (bool _) (choose f ps)

-- of a family of tests that grows with m: the first m at which one passes
abbrev Least : (ℕ → Vertex → Vertex → Bool) → List Pair → Type 0
Least f ps = (m : ℕ) × Found (f m) ps × ((r : ℕ) → r < m → hits (f r) ps ≡ 0)

pub least : (f : ℕ → Vertex → Vertex → Bool) (ps : List Pair)
    → ((m n : ℕ) → m ≤ n → hits (f m) ps ≤ hits (f n) ps) → (n : ℕ) → (hits (f n) ps ≡ 0) ⊎ Least f ps
least f ps grow zero = elim (choose (f 0) ps) [ inl e ↦ inl e | inr h ↦ inr (0, h, λ r l. absurd (omega arith)) ]
least f ps grow (suc n) = go (least f ps grow n) (choose (f (suc n)) ps)
  where
    go : (hits (f n) ps ≡ 0) ⊎ Least f ps → (hits (f (suc n)) ps ≡ 0) ⊎ Found (f (suc n)) ps → (hits (f (suc n)) ps ≡ 0) ⊎ Least f ps
    go (inr l) c = inr l
    go (inl e) (inl c) = inl c
    go (inl e) (inr c) = inr (suc n, c, λ r l. let h : r ≤ n = omega arith in omega (arith, grow r n h))

-- a pair with an end at w
pub pick : (w : Vertex) (ps : List Pair) → 1 ≤ standing (same w) ps → (s : Vertex) × (rest : List Pair) × Take w s ps rest
unfolding standing hits
pick w ps h = elim (choose (λ u v. same w u) ps) [
  | inl e ↦ absurd (omega (arith, e))
  | inr f ↦ (f.1, f.2, subst (λ v. Take v f.1 ps f.2) (sym (same_true w f.0 f.4)) f.3)
]

-- ── pairs whose ends differ ──
pub proper_take : (u v : Vertex) {ps rest : List Pair} → Take u v ps rest → Proper ps → (same u v ≡ false) × Proper rest
proper_take u v here a = a
proper_take u v back a = (same_sym u v ∙ a.0, a.1)
proper_take u v (there t) a = let k = proper_take u v t a.1 in (k.0, (a.0, k.1))

-- a proper pair has not both ends at v
proper_inside : (v : Vertex) (ps : List Pair) → Proper ps → inside (same v) ps ≡ 0
unfolding inside tally
proper_inside v [] a = refl
proper_inside v (p ∷ ps) a = omega (arith, proper_inside v ps a.1, go (bool (same v p.first)) (bool (same v p.second)))
  where
    go : (same v p.first ≡ true) ⊎ (same v p.first ≡ false) → (same v p.second ≡ true) ⊎ (same v p.second ≡ false)
        → both (same v p.first) (same v p.second) ≡ 0
    go (inl e) (inl f) =
        let q : p.first ≡ p.second = sym (same_true v p.first e) ∙ same_true v p.second f in
        let z : same p.first p.second ≡ true = rw (← q) (same_self p.first) in
        absurd (clash z a.0)
    go (inl e) (inr f) = rw (e, f)
    go (inr e) f = rw e

pub proper_leaving : (v : Vertex) (ps : List Pair) → Proper ps → leaving (same v) ps ≡ standing (same v) ps
proper_leaving v ps a = omega (arith, standing_split (same v) ps, proper_inside v ps a)
