-- A list that is written block by block: the next block is what the rest of it begins with. A part of a buffer that was lent and came back.
-- Assumes nothing.
use Rattle.std.specs.Prelude.{◌≡◌, refl, List, [], ◌∷◌, ◌++◌, ℕ, suc, ◌+◌, ◌-◌, ◌<◌, ◌≤◌, get_or, set, take, drop, length}
use Rattle.std.proofs.Common.{ap, append_assoc, append-nil, arith, add-one, length-append, length-drop, drop_of_length-le, drop-cons, take-add, take_all, take_at, drop_at, drop-drop}
use Rattle.std.proofs.lemmas.List.{set_at}
use Rattle.std.proofs.Math.Seq.{take-append_seam, drop-append_seam}

module _ {A : Type 0} (xs : List A) (n : ℕ) (ys rest : List A) (next : drop n xs ≡ ys ++ rest) where
  pub take_more : take (n + length ys) xs ≡ take n xs ++ ys
  take_more = rw (take-add n (length ys) xs, next, take-append_seam) refl

  pub drop_more : drop (n + length ys) xs ≡ rest
  drop_more = rw (← drop-drop (length ys) n xs, next, drop-append_seam) refl

  pub block_inside : n ≤ length xs → n + length ys ≤ length xs
  block_inside h = omega (arith, length-drop n xs, ap length next, length-append ys rest)

-- a store right after what is written already
pub put_next : (p l : List ℕ) (n x : ℕ) → length p ≡ n → n < length l → set (p ++ drop n l) n x ≡ (p ++ (x ∷ [])) ++ drop (n + 1) l
put_next p l n x e h = rw (drop-cons l n 0, set_at p (get_or l n 0) (drop (suc n) l) x n e, append_assoc, add-one)

-- A part of a buffer, lent from `at` on, has come back: what was written before it, what the callee wrote, and the untouched rest.
module _ (p l out ws : List ℕ) (at : ℕ) (here : length p ≡ at) (is : out ≡ p ++ drop at l) (room : at + length ws ≤ length l) where
  out-length : length out ≡ length l
  out-length = rw (is, length-append, length-drop) (omega arith)

  part-is : take (length out - at) (drop at out) ≡ drop at l
  part-is =
      let d : drop at out ≡ drop at l = rw is (drop_at p (drop at l) at here) in
      let all : length (drop at l) ≤ length out - at = rw (length-drop, out-length) (omega arith) in
      rw d (take_all (length out - at) (drop at l) all)

  pub part-back : (last : List ℕ) → last ≡ ws ++ drop (length ws) (take (length out - at) (drop at out)) →
      take at out ++ (last ++ drop (length out - at) (drop at out)) ≡ (p ++ ws) ++ drop (at + length ws) l
  part-back last e =
      let t : take at out ≡ p = rw is (take_at p (drop at l) at here) in
      let over : length (drop at out) ≤ length out - at = rw length-drop (omega arith) in
      let none : drop (length out - at) (drop at out) ≡ [] = drop_of_length-le (drop at out) over in
      rw (none, t, e, part-is, drop-drop (length ws) at l, append-nil, append_assoc)
