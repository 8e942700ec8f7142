-- A loop that asks a test of one element of a list after another: before each turn, what was found, and that the elements from there on pass, is that
-- all pass.
-- Assumes nothing.
use Rattle.std.specs.Prelude.{◌≡◌, refl, Bool, true, false, ◌&&◌, List, [], ◌∷◌, ℕ, ◌+◌, ◌<◌, length, get_or, drop}
use Rattle.std.proofs.Common.{sym, ◌∙◌, add-one, drop-cons}
use Rattle.std.proofs.Math.Seq.{drop-length}
use Rattle.count.specs.TruthLaws.{and_assoc}

pub and_none : (t : Bool) → t && true ≡ t
and_none true = refl
and_none false = refl

-- `all` tells whether every element passes the test t
module _ {A : Type 0} (all : List A → Bool) (t : A → Bool) (step : (x : A) (xs : List A) → all (x ∷ xs) ≡ t x && all xs) (xs : List A) where
  pub every-next : (i : ℕ) (d : A) (ok this was : Bool) → i < length xs → this ≡ t (get_or xs i d) → ok && all (drop i xs) ≡ was
      → (ok && this) && all (drop (i + 1) xs) ≡ was
  every-next i d ok this was h e inv = rw (e, and_assoc, add-one i) (rw (drop-cons xs i d h, step) at inv)

  pub every-last : all [] ≡ true → (ok was : Bool) → ok && all (drop (length xs) xs) ≡ was → ok ≡ was
  every-last none ok was inv = sym (and_none ok) ∙ (rw (drop-length xs, none) at inv)
