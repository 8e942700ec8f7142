-- Definitions only: a truth value as a number, and an answer that decides a claim. Nothing is proved here: TruthLaws has the laws.
use Rattle.std.specs.Prelude.{◌≡◌, Bool, true, false, ◌↔◌, ℕ}

abbrev pub one : Bool → ℕ
one true = 1
one false = 0

-- the answer r is the test t, and it is true exactly when the claim P holds.
pub record Decides (r t : Bool) (P : Type 0) : Type 0 where
  pub same : r ≡ t
  pub exact : (r ≡ true) ↔ P
