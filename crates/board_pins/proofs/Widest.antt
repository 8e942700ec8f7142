-- The widest of some rows is no narrower than any of them and as wide as one of them.
-- Assumes nothing.
use Rattle.std.specs.Prelude.{◌≡◌, ℕ, zero, suc, ◌≤◌, ◌<◌}
use Rattle.std.proofs.Common.{inl, inr, arith}
use Rattle.count.specs.TruthLaws.{le_or_lt}
use Rattle.board.specs.Board.{Board}
use Rattle.board_convex.specs.Form.{width}
use Rattle.board_pins.specs.Pins.{widest}

pub widest_most : (b : Board) (n i : ℕ) → i < n → width b i ≤ widest b n
unfolding widest
widest_most b zero i h = absurd (omega arith)
widest_most b (suc n) i h = elim (le_or_lt n i) [
  | inl q ↦ let e : i ≡ n = omega arith in rw e (omega arith)
  | inr q ↦ omega (arith, widest_most b n i q)
]

pub widest_is : (b : Board) (n : ℕ) → 1 ≤ n → (i : ℕ) × (i < n) × (widest b n ≡ width b i)
unfolding widest
widest_is b zero h = absurd (omega arith)
widest_is b (suc zero) h = (0, omega arith, omega arith)
widest_is b (suc (suc n)) h = elim (le_or_lt (widest b (suc n)) (width b (suc n))) [
  | inl q ↦ (suc n, omega arith, omega arith)
  | inr q ↦ let k = widest_is b (suc n) (omega arith) in (k.0, omega (arith, k.1), omega (arith, k.2))
]

-- no row is wider than k
pub widest_le : (b : Board) (n k : ℕ) → ((i : ℕ) → i < n → width b i ≤ k) → widest b n ≤ k
unfolding widest
widest_le b zero k h = omega arith
widest_le b (suc n) k h = omega (arith, widest_le b n k (λ i l. h i (omega arith)), h n (omega arith))
