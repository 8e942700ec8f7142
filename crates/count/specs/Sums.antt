-- Laws of sums over 0, 1, .., n - 1, and searches below a number.
-- Assumes nothing.
use Rattle.std.specs.Prelude.{◌≡◌, refl, ◌⊎◌, ℕ, zero, suc, ◌+◌, ◌-◌, ◌≤◌, ◌<◌, min, ◌*◌}
use Rattle.std.proofs.Common.{subst, inl, inr, zero-add, suc-add, arith}
use Rattle.count.specs.Bits.{eq_case}
use Rattle.count.specs.TruthLaws.{le_or_lt}
use Rattle.count.specs.Sum.{sum, sum_eq}

pub sum_le : (n : ℕ) (f g : ℕ → ℕ) → ((i : ℕ) → i < n → f i ≤ g i) → sum n f ≤ sum n g
unfolding sum
sum_le zero f g h = omega arith
sum_le (suc n) f g h = omega (arith, sum_le n f g (λ i l. h i (omega arith)), h n (omega arith))

pub sum_add : (n : ℕ) (f g : ℕ → ℕ) → sum n (λ i. f i + g i) ≡ sum n f + sum n g
unfolding sum
sum_add zero f g = refl
sum_add (suc n) f g = omega (arith, sum_add n f g)

-- two sums that differ at one place
pub sum_at : (n k d : ℕ) (f g : ℕ → ℕ) → k < n → ((i : ℕ) → (i ≡ k → ⊥) → f i ≡ g i) → f k ≡ g k + d → sum n f ≡ sum n g + d
unfolding sum
sum_at zero k d f g l h e = absurd (omega arith)
sum_at (suc n) k d f g l h e = elim (eq_case n k) [
  | inl q ↦ let e' : f n ≡ g n + d = rw q.2 e in omega (arith, sum_eq n f g (λ i b. h i (λ c. omega (arith, q.2))), e')
  | inr q ↦ let l' : k < n = omega (arith, q.2) in omega (arith, sum_at n k d f g l' h e, h n q.2)
]

-- the sum of an interval's bits
pub sum_interval : (n lo hi : ℕ) (f : ℕ → ℕ) → ((i : ℕ) → lo ≤ i → i < hi → f i ≡ 1) → ((i : ℕ) → i < lo → f i ≡ 0) → ((i : ℕ) → hi ≤ i → f i ≡ 0)
    → sum n f ≡ min n hi - lo
unfolding sum
sum_interval zero lo hi f h1 h2 h3 = omega arith
sum_interval (suc n) lo hi f h1 h2 h3 = let ih = sum_interval n lo hi f h1 h2 h3 in elim (le_or_lt hi n) [
  | inl b ↦ omega (arith, h3 n b)
  | inr b ↦ elim (le_or_lt lo n) [ inl a ↦ omega (arith, h1 n a b) | inr a ↦ omega (arith, h2 n a) ]
]

-- a sum read from the other end
pub sum_head : (n : ℕ) (f : ℕ → ℕ) → sum (suc n) f ≡ f 0 + sum n (λ i. f (suc i))
unfolding sum
sum_head zero f = omega arith
sum_head (suc n) f = omega (arith, sum_head n f)

pub sum_reverse : (n : ℕ) (f g : ℕ → ℕ) → ((i j : ℕ) → suc (i + j) ≡ n → f i ≡ g j) → sum n f ≡ sum n g
unfolding sum
sum_reverse zero f g h = refl
sum_reverse (suc n) f g h = omega (arith, sum_head n g, sum_reverse n f (λ j. g (suc j)) (λ i j e. h i (suc j) (omega arith)), h n 0 (omega arith))

pub sum_tail : (n d : ℕ) (f : ℕ → ℕ) → ((i : ℕ) → n ≤ i → f i ≡ 0) → sum (d + n) f ≡ sum n f
unfolding sum
sum_tail n zero f h = rw (zero-add n)
sum_tail n (suc d) f h = rw (suc-add d n) (omega (arith, sum_tail n d f h, h (d + n) (omega arith)))

pub sum_none : (n : ℕ) (f : ℕ → ℕ) → ((i : ℕ) → i < n → f i ≡ 0) → sum n f ≡ 0
unfolding sum
sum_none zero f h = refl
sum_none (suc n) f h = omega (arith, sum_none n f (λ i l. h i (omega arith)), h n (omega arith))

pub sum_get : (n k : ℕ) (f : ℕ → ℕ) → k < n → f k ≤ sum n f
unfolding sum
sum_get zero k f h = absurd (omega arith)
sum_get (suc n) k f h = elim (eq_case k n) [ inl e ↦ rw e.2 (omega arith) | inr e ↦ omega (arith, sum_get n k f (omega (arith, e.2))) ]

pub sum_lt : (n k : ℕ) (f g : ℕ → ℕ) → ((i : ℕ) → i < n → f i ≤ g i) → k < n → f k < g k → sum n f < sum n g
unfolding sum
sum_lt zero k f g h l s = absurd (omega arith)
sum_lt (suc n) k f g h l s = elim (eq_case k n) [
  | inl e ↦
      let s' : f n < g n = subst (λ j. f j < g j) e.2 s in
      omega (arith, sum_le n f g (λ i b. h i (omega arith)))
  | inr e ↦ omega (arith, sum_lt n k f g (λ i b. h i (omega arith)) (omega (arith, e.2)) s, h n (omega arith))
]

-- ── searches ──
-- all are 0, or one is not
pub zero_or_some : (n : ℕ) (f : ℕ → ℕ) → ((i : ℕ) → i < n → f i ≡ 0) ⊎ ((i : ℕ) × (i < n) × (1 ≤ f i))
zero_or_some zero f = inl (λ i h. absurd (omega arith))
zero_or_some (suc n) f = elim (zero_or_some n f) [
  | inr h ↦ inr (h.0, omega (arith, h.1), h.2)
  | inl h ↦ elim (le_or_lt (f n) 0) [
    | inl z ↦ inl (λ i k. elim (eq_case i n) [ inl e ↦ rw e.2 (omega arith) | inr e ↦ h i (omega (arith, e.2)) ])
    | inr z ↦ inr (n, omega arith, z)
  ]
]

-- either a test holds for all in an interval, or it fails somewhere
pub search_below : (a : ℕ → ℕ) (q top n : ℕ) → ((l : ℕ) → top ≤ l → l < n → q ≤ a l) ⊎ ((l : ℕ) × (top ≤ l) × (l < n) × (a l < q))
search_below a q top zero = inl (λ l h k. absurd (omega arith))
search_below a q top (suc n) = elim (search_below a q top n) [
  | inr h ↦ inr (h.0, h.1, omega (arith, h.2), h.3)
  | inl h ↦ elim (le_or_lt q (a n)) [
    | inl g ↦ inl (λ l i k. elim (eq_case l n) [ inl e ↦ rw e.2 g | inr e ↦ h l i (omega (arith, e.2)) ])
    | inr g ↦ elim (le_or_lt top n) [
      | inl t ↦ inr (n, t, omega arith, g)
      | inr t ↦ inl (λ l i k. absurd (omega arith))
    ]
  ]
]

pub sum_const : (n k : ℕ) → sum n (λ i. k) ≡ n * k
unfolding sum
sum_const zero k = omega arith
sum_const (suc n) k = omega (arith, sum_const n k)
