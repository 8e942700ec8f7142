-- Turns: a pair of directions is one turn or none, and two straight runs have at most one turn between them.
-- Assumes nothing.
use Rattle.std.specs.Prelude.{◌≡◌, refl, List, [], ◌∷◌, ◌++◌, ◌⊎◌, ℕ, zero, suc, ◌+◌, ◌≤◌, eqb}
use Rattle.std.proofs.Common.{ap, sym, ◌∙◌, inl, inr, arith, eqb-true, eq-eqb}
use Rattle.count.specs.TruthLaws.{bool}
use Rattle.board.specs.Path.{number, turn, turns}
use Rattle.board.specs.declared.Direction.{Direction}
use Rattle.board.specs.declared.Direction.TheVariants.{Up, Right, Down, Left}

-- ── one pair of directions ──
direction : ℕ → Direction
direction zero = Up
direction (suc zero) = Right
direction (suc (suc zero)) = Down
direction (suc (suc (suc n))) = Left

direction_number : (d : Direction) → direction (number d) ≡ d
unfolding direction
direction_number Up = refl
direction_number Right = refl
direction_number Down = refl
direction_number Left = refl

pub turn_case : (d e : Direction) → ((turn d e ≡ 0) × (d ≡ e)) ⊎ (turn d e ≡ 1)
unfolding turn
turn_case d e = elim (bool (eqb (number d) (number e))) [
  | inl h ↦ inl (rw h refl, sym (direction_number d) ∙ (ap direction (eqb-true (number d) (number e) h) ∙ direction_number e))
  | inr h ↦ inr (rw h refl)
]

pub turn_self : (d : Direction) → turn d d ≡ 0
unfolding turn
turn_self d = rw (eq-eqb (number d) (number d) refl) refl

pub turns_more : (d e : Direction) (ds : List Direction) → turns (d ∷ (e ∷ ds)) ≡ turn d e + turns (e ∷ ds)
unfolding turns
turns_more d e ds = refl

-- ── straight runs ──
-- DEFINITION: n times the same direction
abbrev pub many : ℕ → Direction → List Direction
many zero d = []
many (suc n) d = d ∷ many n d

turns_same : (e : Direction) (m : ℕ) → turns (e ∷ many m e) ≡ 0
unfolding turns
turns_same e zero = refl
turns_same e (suc m) = omega (arith, turn_self e, turns_same e m)

turns_run : (d e : Direction) (m : ℕ) → turns (d ∷ many m e) ≤ 1
unfolding turns
turns_run d e zero = omega arith
turns_run d e (suc m) = elim (turn_case d e) [
  | inl k ↦ rw k.1 (omega (arith, turn_self e, turns_same e m))
  | inr k ↦ omega (arith, turns_same e m)
]

turns-after : (d e : Direction) (n m : ℕ) → turns (d ∷ (many n d ++ many m e)) ≤ 1
turns-after d e zero m = turns_run d e m
turns-after d e (suc n) m = omega (arith, turns_more d d (many n d ++ many m e), turn_self d, turns-after d e n m)

pub turns_two_runs : (d e : Direction) (n m : ℕ) → turns (many n d ++ many m e) ≤ 1
unfolding turns
turns_two_runs d e zero zero = omega arith
turns_two_runs d e zero (suc m) = turns_run e e m
turns_two_runs d e (suc n) m = turns-after d e n m
