-- The sum of f 0, f 1, .., f (n - 1), and how many of 0, 1, .., n - 1 pass a test.
-- Assumes nothing.
use Rattle.std.specs.Prelude.{◌≡◌, refl, Bool, true, false, ◌↔◌, ℕ, zero, suc, ◌+◌, ◌≤◌, ◌<◌, min}
use Rattle.std.proofs.Common.{ap, inl, inr, arith}
use Rattle.count.specs.Truth.{one}
use Rattle.count.specs.TruthLaws.{bool, clash, one_le, le_or_lt}

unfoldable pub sum : ℕ → (ℕ → ℕ) → ℕ
sum zero f = 0
sum (suc n) f = sum n f + f n

-- DEFINITION: how many numbers below n pass the test
unfoldable pub count : ℕ → (ℕ → Bool) → ℕ
count n t = sum n (λ i. one (t i))

pub sum_zero : (f : ℕ → ℕ) → sum 0 f ≡ 0
unfolding sum
sum_zero f = refl

pub sum_suc : (n : ℕ) (f : ℕ → ℕ) → sum (suc n) f ≡ sum n f + f n
unfolding sum
sum_suc n f = refl

pub sum_eq : (n : ℕ) (f g : ℕ → ℕ) → ((i : ℕ) → i < n → f i ≡ g i) → sum n f ≡ sum n g
unfolding sum
sum_eq zero f g h = refl
sum_eq (suc n) f g h = omega (arith, sum_eq n f g (λ i k. h i (omega arith)), h n (omega arith))

pub count_zero : (t : ℕ → Bool) → count 0 t ≡ 0
unfolding count sum
count_zero t = refl

pub count_suc : (n : ℕ) (t : ℕ → Bool) → count (suc n) t ≡ count n t + one (t n)
unfolding count sum
count_suc n t = refl

pub count_le : (n : ℕ) (t : ℕ → Bool) → count n t ≤ n
unfolding count sum
count_le zero t = omega arith
count_le (suc n) t = omega (arith, count_le n t, one_le (t n))

pub count_eq : (n : ℕ) (s t : ℕ → Bool) → ((i : ℕ) → i < n → s i ≡ t i) → count n s ≡ count n t
unfolding count
count_eq n s t h = sum_eq n (λ i. one (s i)) (λ i. one (t i)) (λ i k. ap one (h i k))

-- a test that fails from m on is counted up to m
pub count_shorter : (n m : ℕ) (t : ℕ → Bool) → m ≤ n → ((i : ℕ) → m ≤ i → i < n → t i ≡ false) → count n t ≡ count m t
count_shorter zero m t h f = let e : m ≡ 0 = omega arith in rw e refl
count_shorter (suc n) m t h f = elim (le_or_lt m n) [
  | inl p ↦ omega (arith, count_suc n t, ap one (f n p (omega arith)), count_shorter n m t p (λ i a b. f i a (omega arith)))
  | inr p ↦ let e : m ≡ suc n = omega arith in rw e refl
]

-- ── a test that is true exactly from lo on and below hi ──
interval_below : (n lo hi : ℕ) (t : ℕ → Bool) → lo ≤ hi → ((i : ℕ) → i < n → (t i ≡ true) ↔ ((lo ≤ i) × (i < hi)))
    → count n t + min lo n ≡ min hi n
interval_below zero lo hi t h f = omega (arith, count_zero t)
interval_below (suc n) lo hi t h f =
    let r = interval_below n lo hi t h (λ i k. f i (omega arith)) in let s = count_suc n t in
    elim (bool (t n)) [
      | inl e ↦ let k = (f n (omega arith)).0 e in omega (arith, ap one e, k.0, k.1)
      | inr e ↦ elim (le_or_lt lo n) [
        | inl p ↦ elim (le_or_lt hi n) [
          | inl q ↦ omega (arith, ap one e)
          | inr q ↦ absurd (clash ((f n (omega arith)).1 (p, q)) e)
        ]
        | inr p ↦ omega (arith, ap one e)
      ]
    ]

pub count_interval : (n lo hi : ℕ) (t : ℕ → Bool) → lo ≤ hi → hi ≤ n → ((i : ℕ) → i < n → (t i ≡ true) ↔ ((lo ≤ i) × (i < hi)))
    → count n t + lo ≡ hi
count_interval n lo hi t h k f = omega (arith, interval_below n lo hi t h f)
