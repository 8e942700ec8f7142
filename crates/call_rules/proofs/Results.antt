-- What is known of a result that is a value: no line of the table refused it.
-- Assumes nothing.
use Rattle.std.specs.Prelude.{◌≡◌, refl, Bool, true, false, List, ◌∷◌, ℕ}
use Rattle.std.proofs.Math.Option.{Option, none, some}
use Rattle.std.proofs.Common.{arith}
use Rattle.session_rules.specs.Refusal.{Refusal, Line, line, first_refusal}
use Rattle.call_rules.specs.Result.{Result, no, yes, and_then, unless}

pub yes_same : {A : Type 0} (a b : A) → ◌≡◌ {A = Result A} (yes a) (yes b) → a ≡ b
yes_same a b h = cc

pub passed : {A : Type 0} (o : Option Refusal) (x : Result A) (a : A) → unless o x ≡ yes a → (o ≡ none) × (x ≡ yes a)
passed none x a e = (refl, e)
passed (some r) x a e = absurd (let z : ◌≡◌ {A = ℕ} 0 1 = cc in omega arith)

pub line_passed : (c : Bool) (n p : ℕ) (ls : List Line) → first_refusal (line c n p ∷ ls) ≡ none → (c ≡ false) × (first_refusal ls ≡ none)
line_passed true n p ls e = absurd (let z : ◌≡◌ {A = ℕ} 0 1 = cc in omega arith)
line_passed false n p ls e = (refl, e)

pub then_yes : {A B : Type 0} (x : Result A) (f : A → Result B) (b : B) → and_then x f ≡ yes b → (a : A) × (x ≡ yes a) × (f a ≡ yes b)
then_yes (no r) f b e = absurd (let z : ◌≡◌ {A = ℕ} 0 1 = cc in omega arith)
then_yes (yes a) f b e = (a, refl, e)
