-- Runs of a path, step by step: steps in one direction before a step in another, or before the end, are one run.
-- Assumes nothing.
use Rattle.std.specs.Prelude.{◌≡◌, Bool, true, false, cond, eqb, min, get_or}
use Rattle.std.proofs.Math.Path.{refl}
use Rattle.std.proofs.Common.{ap, inl, inr, sym, ◌∙◌, add-one, drop-cons, eq-eqb, ne_eqb}
use mathlib.Core.List.{List, [], ◌∷◌}
use Prim.Native.Nat.{ℕ, zero, suc, ◌+◌, ◌<◌, ◌≤◌}
use native.Mathlib.Omega.{arith}
use Rattle.std.proofs.Math.ListN.{drop, length, drop_of_length-le}
use Rattle.count.specs.TruthLaws.{le_or_lt}
use Rattle.board.specs.Path.{number}
use Rattle.board.specs.declared.Direction.{Direction}
use Rattle.board.specs.declared.Direction.TheVariants.{Up, Right, Down, Left}
use Rattle.words.specs.RoutingWord.{direction, run, step_then, runs_of}
use Rattle.words.specs.declared.Run.{Run}
use Rattle.router_writer.specs.Written.{directions, RunAt}

-- ── the number of a byte's direction ──
code_small : (b : ℕ) → b < 3 → b ≡ number (direction b)
code_small zero h = refl
code_small (suc zero) h = refl
code_small (suc (suc zero)) h = refl
code_small (suc (suc (suc b))) h = absurd (omega arith)

code_large : (b : ℕ) → 3 ≤ b → 3 ≡ number (direction b)
code_large b h = rw (ne_eqb b 0 (λ e. omega arith), ne_eqb b 1 (λ e. omega arith), ne_eqb b 2 (λ e. omega arith)) refl

pub code_is : (b : ℕ) → min b 3 ≡ number (direction b)
code_is b = elim (le_or_lt 3 b) [ inl h ↦ omega (arith, h, code_large b h) | inr h ↦ omega (arith, h, code_small b h) ]

same_number : (d e : Direction) → number d ≡ number e → d ≡ e
same_number Up Up h = refl
same_number Up Right h = absurd (omega arith)
same_number Up Down h = absurd (omega arith)
same_number Up Left h = absurd (omega arith)
same_number Right Up h = absurd (omega arith)
same_number Right Right h = refl
same_number Right Down h = absurd (omega arith)
same_number Right Left h = absurd (omega arith)
same_number Down Up h = absurd (omega arith)
same_number Down Right h = absurd (omega arith)
same_number Down Down h = refl
same_number Down Left h = absurd (omega arith)
same_number Left Up h = absurd (omega arith)
same_number Left Right h = absurd (omega arith)
same_number Left Down h = absurd (omega arith)
same_number Left Left h = refl

-- ── n steps in one direction in front of runs ──
-- DEFINITION
unfoldable pub steps : Direction → ℕ → List Run → List Run
steps d zero rs = rs
steps d (suc n) rs = step_then d (steps d n rs)

steps_more : (d : Direction) (n : ℕ) (rs : List Run) → steps d n (step_then d rs) ≡ steps d (suc n) rs
unfolding steps
steps_more d zero rs = refl
steps_more d (suc n) rs = ap (step_then d) (steps_more d n rs)

-- DEFINITION: the first of the runs, if there is one, goes in another direction
abbrev Other : Direction → List Run → Type 0
Other d [] = Unit {0}
Other d (r ∷ rs) = number d ≡ number r.direction → ⊥

other_step : (d e : Direction) (rs : List Run) → (number d ≡ number e → ⊥) → Other d (step_then e rs)
other_step d e [] h = h
other_step d e (r ∷ rs) h = by (eqb (number e) (number r.direction))
  where
    by : (b : Bool) → Other d (cond b (run e (r.length + 1) ∷ rs) (run e 1 ∷ (r ∷ rs)))
    by true = h
    by false = h

first_step : (d : Direction) (rs : List Run) → Other d rs → step_then d rs ≡ run d 1 ∷ rs
first_step d [] h = refl
first_step d (r ∷ rs) h = rw (ne_eqb (number d) (number r.direction) h) refl

steps_run : (d : Direction) (n : ℕ) (rs : List Run) → Other d rs → steps d (suc n) rs ≡ run d (suc n) ∷ rs
unfolding steps
steps_run d zero rs h = first_step d rs h
steps_run d (suc n) rs h =
    ap (step_then d) (steps_run d n rs h) ∙ rw (eq-eqb (number d) (number d) refl, add-one) refl

-- ── as the scan of a run meets them ──
module _ (bytes : List ℕ) where
  abbrev At : ℕ → Direction
  At k = direction (get_or bytes k 0)

  abbrev From : ℕ → List Run
  From k = runs_of (directions (drop k bytes))

  from_step : (k : ℕ) → k < length bytes → From k ≡ step_then (At k) (From (suc k))
  unfolding runs_of
  from_step k h = rw (drop-cons bytes k 0 h) refl

  pub run-start : (k : ℕ) → k < length bytes → From k ≡ steps (At k) 1 (From (k + 1))
  unfolding steps
  run-start k h = rw (add-one k) (from_step k h)

  pub run_on : (from n : ℕ) → from + n < length bytes → number (At (from + n)) ≡ number (At from)
      → From from ≡ steps (At from) n (From (from + n)) → From from ≡ steps (At from) (n + 1) (From (from + (n + 1)))
  run_on from n h e g =
      let q : suc (from + n) ≡ from + (n + 1) = omega arith in
      g ∙ rw (from_step (from + n) h, same_number (At (from + n)) (At from) e, steps_more, q, ← add-one n) refl

  pub run-turns : (from n : ℕ) → 0 < n → from + n < length bytes → (number (At (from + n)) ≡ number (At from) → ⊥)
      → From from ≡ steps (At from) n (From (from + n)) → RunAt bytes from n
  run-turns from zero s h e g = absurd (omega arith)
  run-turns from (suc n) s h e g = record {
    some = s;
    within = omega arith;
    runs =
        g ∙ steps_run (At from) n (From (from + suc n))
        (rw (from_step (from + suc n) h) (other_step (At from) (At (from + suc n)) (From (suc (from + suc n))) (λ x. e (sym x))));
  }

  pub run_ends : (from n : ℕ) → 0 < n → from + n ≡ length bytes → From from ≡ steps (At from) n (From (from + n)) → RunAt bytes from n
  unfolding runs_of
  run_ends from zero s h g = absurd (omega arith)
  run_ends from (suc n) s h g =
      let past : length bytes ≤ from + suc n = omega arith in
      let none : drop (from + suc n) bytes ≡ [] = drop_of_length-le bytes past in
      record { some = s; within = omega arith; runs = g ∙ steps_run (At from) n (From (from + suc n)) (rw none tt) }
