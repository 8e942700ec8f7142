-- The entry of a number in a list, read and replaced, as the code finds it by its index.
-- Assumes nothing.
use Rattle.std.specs.Prelude.{◌≡◌, refl, List, ℕ, zero, suc, ◌-◌, ◌<◌, ◌≤◌, length, get_or, set}
use Rattle.std.proofs.Common.{sym, arith, length-set}
use Rattle.std.proofs.Math.ListN.{get_or-eq_default}
use Rattle.std.proofs.Math.Seq.{set_out}
use Rattle.net_places.specs.Numbered.{entry, replaced, index_of}

pub index-of : (n : ℕ) → 0 < n → n - 1 ≡ index_of n
index-of zero h = absurd (omega arith)
index-of (suc i) h = omega arith

module _ {A : Type 0} where
  pub entry_in : (xs : List A) (n i : ℕ) (d : A) → i ≡ index_of n → i < 64 → get_or xs i d ≡ entry xs n d
  entry_in xs zero i d e h = absurd (omega arith)
  entry_in xs (suc k) i d e h = rw e refl

  pub entry-out : (xs : List A) (n i : ℕ) (d : A) → i ≡ index_of n → 64 ≤ i → length xs ≡ 64 → d ≡ entry xs n d
  entry-out xs zero i d e h l = refl
  entry-out xs (suc k) i d e h l = sym (get_or-eq_default xs d (omega arith))

  pub replaced-in : (xs : List A) (n i : ℕ) (x : A) → i ≡ index_of n → i < 64 → set xs i x ≡ replaced xs n x
  replaced-in xs zero i x e h = absurd (omega arith)
  replaced-in xs (suc k) i x e h = rw e refl

  pub replaced-out : (xs : List A) (n i : ℕ) (x : A) → i ≡ index_of n → 64 ≤ i → length xs ≡ 64 → xs ≡ replaced xs n x
  replaced-out xs zero i x e h l = refl
  replaced-out xs (suc k) i x e h l = sym (set_out xs k x (omega arith))

  pub length-replaced : (xs : List A) (n : ℕ) (x : A) → length (replaced xs n x) ≡ length xs
  length-replaced xs zero x = refl
  length-replaced xs (suc i) x = length-set xs i x
