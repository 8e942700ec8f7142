-- Even and odd numbers.
-- Assumes nothing.
use Rattle.std.specs.Prelude.{◌≡◌, Bool, true, false, ◌⊎◌, ℕ, ◌+◌, ◌*◌, ◌/◌, ◌%◌, eqb}
use Rattle.std.proofs.Common.{inl, inr, arith, eq-eqb, ne_eqb}
use Rattle.count.specs.TruthLaws.{le_or_lt}

-- DEFINITION: n is even
abbrev pub Even : ℕ → Type 0
Even n = (k : ℕ) × (n ≡ 2 * k)

-- DEFINITION: n is odd
unfoldable pub odd_number : ℕ → Bool
odd_number n = eqb (n % 2) 1

pub odd_case : (n : ℕ) → ((k : ℕ) × (n ≡ 2 * k) × (odd_number n ≡ false)) ⊎ ((k : ℕ) × (n ≡ 2 * k + 1) × (odd_number n ≡ true))
unfolding odd_number
odd_case n = elim (le_or_lt (n % 2) 0) [
  | inl h ↦ inl (n / 2, omega arith, ne_eqb (n % 2) 1 (λ e. omega arith))
  | inr h ↦ inr (n / 2, omega arith, eq-eqb (n % 2) 1 (omega arith))
]
