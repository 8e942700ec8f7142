-- A list moved down by one place, with a new last element; and the length of an array in a struct.
-- Assumes nothing.
use Rattle.std.specs.Prelude.{◌≡◌, List, [], ◌∷◌, ◌++◌, map, ℕ, suc, ◌+◌, ◌<◌, ◌≤◌, get_or, set, drop, length}
use Rattle.std.proofs.Common.{zero-add, arith, drop_of_length-le, length-drop, drop-cons, take_all}
use Rattle.std.proofs.lemmas.List.{length-map, set_at}
use Rattle.std.proofs.Math.Seq.{paste}

module _ {A : Type 0} where
  moved_down : (a : List A) (n : ℕ) → length a ≡ n + 1 → paste a 0 (drop 1 a) n ≡ drop 1 a ++ drop n a
  moved_down a n e =
      let h : length (drop 1 a) ≤ n = simp length-drop (omega arith) in
      rw (take_all n (drop 1 a) h, zero-add)

  -- the last place of a list that was moved down takes the new element
  pub last_set : (a : List A) (n : ℕ) (x z : A) → length a ≡ n + 1 → set (paste a 0 (drop 1 a) n) n x ≡ drop 1 a ++ (x ∷ [])
  last_set a n x z e =
      let l : n < length a = omega arith in
      let d : length (drop 1 a) ≡ n = simp length-drop (omega arith) in
      let end : length a ≤ suc n = omega arith in
      rw (moved_down a n e, drop-cons a n z l, set_at (drop 1 a) (get_or a n z) (drop (suc n) a) x n d, drop_of_length-le a end)

-- the length of an array of structs that is a field of a struct, as owning the struct tells it
pub length_unmapped_by : (X Y : Type 0) (f : X → Y) (l : List X) (n : ℕ) → length (map f l) ≡ n → length l ≡ n
length_unmapped_by X Y f l n e = rw length-map at e
