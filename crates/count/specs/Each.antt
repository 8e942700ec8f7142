-- Every element of a list obeys P: for numbers in rising order, for lists of lists, and for a test that selects none.
-- Assumes nothing.
use Rattle.std.specs.Prelude.{◌≡◌, refl, Bool, false, cond, ℕ, zero, suc, ◌+◌, ◌≤◌, ◌<◌, length}
use Rattle.std.proofs.Common.{ap, subst, inl, inr, arith}
use mathlib.Core.List.{List, [], ◌∷◌, ◌++◌, map, flat_map}
use Rattle.count.specs.TruthLaws.{bool, eq_or_ne}
use Rattle.count.specs.Lists.{rising, up_to, select}

-- DEFINITION: every element obeys P
abbrev pub Each : {A : Type 0} → (A → Type 0) → List A → Type 0
Each P [] = Unit {0}
Each P (x ∷ xs) = P x × Each P xs

-- ── numbers in rising order ──
each_rising : (P : ℕ → Type 0) (i n : ℕ) → ((j : ℕ) → i ≤ j → j < i + n → P j) → Each P (rising i n)
each_rising P i zero h = tt
each_rising P i (suc n) h = (h i (omega arith) (omega arith), each_rising P (suc i) n (λ j a b. h j (omega arith) (omega arith)))

rising_each : (P : ℕ → Type 0) (i n : ℕ) → Each P (rising i n) → (j : ℕ) → i ≤ j → j < i + n → P j
rising_each P i zero e j a b = absurd (omega arith)
rising_each P i (suc n) e j a b = elim (eq_or_ne i j) [
  | inl q ↦ subst P q e.0
  | inr q ↦ rising_each P (suc i) n e.1 j (omega (arith, q)) (omega arith)
]

pub each_up_to : (P : ℕ → Type 0) (n : ℕ) → ((j : ℕ) → j < n → P j) → Each P (up_to n)
each_up_to P n h = each_rising P 0 n (λ j a b. h j (omega arith))

pub up_to_each : (P : ℕ → Type 0) (n : ℕ) → Each P (up_to n) → (j : ℕ) → j < n → P j
up_to_each P n e j h = rising_each P 0 n e j (omega arith) (omega arith)

-- ── lists made of lists ──
pub each_append : {A : Type 0} (P : A → Type 0) (xs ys : List A) → Each P xs → Each P ys → Each P (xs ++ ys)
each_append P [] ys e f = f
each_append P (x ∷ xs) ys e f = (e.0, each_append P xs ys e.1 f)

pub append_each : {A : Type 0} (P : A → Type 0) (xs ys : List A) → Each P (xs ++ ys) → Each P xs × Each P ys
append_each P [] ys e = (tt, e)
append_each P (x ∷ xs) ys e = let k = append_each P xs ys e.1 in ((e.0, k.0), k.1)

pub each_map : {A B : Type 0} (P : B → Type 0) (f : A → B) (xs : List A) → Each (λ x. P (f x)) xs → Each P (map f xs)
each_map P f [] e = tt
each_map P f (x ∷ xs) e = (e.0, each_map P f xs e.1)

pub map_each : {A B : Type 0} (P : B → Type 0) (f : A → B) (xs : List A) → Each P (map f xs) → Each (λ x. P (f x)) xs
map_each P f [] e = tt
map_each P f (x ∷ xs) e = (e.0, map_each P f xs e.1)

pub each_flat_map : {A B : Type 0} (P : B → Type 0) (f : A → List B) (xs : List A) → Each (λ x. Each P (f x)) xs → Each P (flat_map f xs)
unfolding flat_map
each_flat_map P f [] e = tt
each_flat_map P f (x ∷ xs) e = each_append P (f x) (flat_map f xs) e.0 (each_flat_map P f xs e.1)

pub flat_map_each : {A B : Type 0} (P : B → Type 0) (f : A → List B) (xs : List A) → Each P (flat_map f xs) → Each (λ x. Each P (f x)) xs
unfolding flat_map
flat_map_each P f [] e = tt
flat_map_each P f (x ∷ xs) e = let k = append_each P (f x) (flat_map f xs) e in (k.0, flat_map_each P f xs k.1)

-- ── a test that selects none ──
pub select_none : {A : Type 0} (t : A → Bool) (xs : List A) → select t xs ≡ [] → Each (λ x. t x ≡ false) xs
unfolding select
select_none t [] e = tt
select_none t (x ∷ xs) e = elim (bool (t x)) [
  | inl y ↦ absurd (let z : x ∷ select t xs ≡ [] = subst (λ s. cond s (x ∷ select t xs) (select t xs) ≡ []) y e in
      let l : suc (length (select t xs)) ≡ 0 = ap length z in omega arith)
  | inr n ↦ (n, select_none t xs (subst (λ s. cond s (x ∷ select t xs) (select t xs) ≡ []) n e))
]

pub none_select : {A : Type 0} (t : A → Bool) (xs : List A) → Each (λ x. t x ≡ false) xs → select t xs ≡ []
unfolding select
none_select t [] e = refl
none_select t (x ∷ xs) e = rw e.0 (none_select t xs e.1)
