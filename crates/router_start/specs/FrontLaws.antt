-- An array that is filled from its start: its size, its entries, and one entry more.
-- Assumes that it has room.
use Rattle.std.specs.Prelude.{◌≡◌, refl, List, [], ◌∷◌, ◌++◌, ℕ, suc, ◌+◌, ◌-◌, ◌≤◌, ◌<◌, length, get_or, set, drop}
use Rattle.std.proofs.Common.{◌∙◌, append_assoc, arith, length-append, length-drop, drop-cons, get_or-append-add, get_or-drop}
use Rattle.std.proofs.Math.ListN.{get_or-append}
use Rattle.std.proofs.lemmas.List.{set_at}
use Rattle.router_start.specs.Front.{in_front}

module _ (xs before : List ℕ) where
  pub front-size : length xs ≤ length before → length (in_front xs before) ≡ length before
  front-size h = rw (length-append, length-drop) (omega arith)

  pub front-get : (i : ℕ) → i < length xs → get_or (in_front xs before) i 0 ≡ get_or xs i 0
  front-get i h = get_or-append xs (drop (length xs) before) 0 i h

  pub front-past : (i : ℕ) → length xs ≤ i → get_or (in_front xs before) i 0 ≡ get_or before i 0
  front-past i h =
      let e : length xs + (i - length xs) ≡ i = omega arith in
      let g = get_or-append-add xs (drop (length xs) before) (i - length xs) 0 ∙ get_or-drop (length xs) before (i - length xs) 0 in
      rw e at g

  pub front-more : (n x : ℕ) → length xs ≡ n → n < length before → set (in_front xs before) n x ≡ in_front (xs ++ (x ∷ [])) before
  front-more n x e h =
      let d : drop (length xs) before ≡ get_or before n 0 ∷ drop (suc n) before = rw e (drop-cons before n 0 h) in
      let l : length (xs ++ (x ∷ [])) ≡ suc n = rw length-append (omega arith) in
      rw (d, l, set_at xs (get_or before n 0) (drop (suc n) before) x n e, append_assoc) refl
