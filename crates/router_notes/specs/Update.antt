-- A function changed at one place, and sums of two functions that differ at one place.
-- Assumes nothing.
use Rattle.std.specs.Prelude.{◌≡◌, refl, Bool, true, false, ℕ, zero, suc, ◌+◌, ◌<◌, eqb}
use Rattle.std.proofs.Common.{sym, inl, inr, arith, eq-eqb, ne_eqb}
use Rattle.count.specs.Bits.{eq_case}
use Rattle.count.specs.Sum.{sum, sum_eq}

abbrev pub pick? : {A : Type 0} → Bool → A → A → A
pick? true x y = x
pick? false x y = y

-- f with x at i
abbrev pub upd : {A : Type 0} → ℕ → A → (ℕ → A) → ℕ → A
upd i x f j = pick? (eqb j i) x (f j)

pub upd_same : {A : Type 0} (i : ℕ) (x : A) (f : ℕ → A) → upd i x f i ≡ x
upd_same i x f = rw (eq-eqb i i refl)

pub upd_other : {A : Type 0} (i : ℕ) (x : A) (f : ℕ → A) (j : ℕ) → (j ≡ i → ⊥) → upd i x f j ≡ f j
upd_other i x f j h = rw (ne_eqb j i h)

pub sum_change : (n i : ℕ) (f g : ℕ → ℕ) → i < n → ((j : ℕ) → (j ≡ i → ⊥) → f j ≡ g j) → sum n f + g i ≡ sum n g + f i
unfolding sum
sum_change zero i f g l h = absurd (omega arith)
sum_change (suc n) i f g l h = elim (eq_case i n) [
  | inl q ↦
      let e : sum n f ≡ sum n g = sum_eq n f g (λ j b. h j (λ c. omega (arith, q.2))) in
      rw q.2 (omega arith)
  | inr q ↦ omega (arith, sum_change n i f g (omega (arith, q.2)) h, h n (λ c. q.2 (sym c)))
]
