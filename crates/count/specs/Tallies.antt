-- Sums over a list: of one list after another, of a function's values at rising numbers; and how many elements pass a test, as such a sum.
-- Assumes nothing.
use Rattle.std.specs.Prelude.{◌≡◌, refl, Bool, true, false, cond, ℕ, zero, suc, ◌+◌, length}
use Rattle.std.proofs.Common.{ap, arith}
use mathlib.Core.List.{List, [], ◌∷◌, ◌++◌, map, flat_map}
use Rattle.count.specs.Truth.{one}
use Rattle.count.specs.Lists.{rising, up_to, select, tally}
use Rattle.count.specs.Sum.{sum, sum_eq}
use Rattle.count.specs.Sums.{sum_head}

-- ── one list after another ──
pub tally_append : {A : Type 0} (f : A → ℕ) (xs ys : List A) → tally f (xs ++ ys) ≡ tally f xs + tally f ys
unfolding tally
tally_append f [] ys = omega arith
tally_append f (x ∷ xs) ys = omega (arith, tally_append f xs ys)

pub tally_add : {A : Type 0} (f g : A → ℕ) (xs : List A) → tally (λ x. f x + g x) xs ≡ tally f xs + tally g xs
unfolding tally
tally_add f g [] = refl
tally_add f g (x ∷ xs) = omega (arith, tally_add f g xs)

pub tally_zero : {A : Type 0} (xs : List A) → tally (λ x. 0) xs ≡ 0
unfolding tally
tally_zero [] = refl
tally_zero (x ∷ xs) = omega (arith, tally_zero xs)

-- ── rising numbers ──
-- the sum of f at the numbers from i on
from : (f : ℕ → ℕ) (i n : ℕ) → f i + sum n (λ k. f (suc i + k)) ≡ sum (suc n) (λ k. f (i + k))
from f i n =
    let e : i + 0 ≡ i = omega arith in
    let here : f (i + 0) ≡ f i = ap f e in
    let later = sum_eq n (λ k. f (suc i + k)) (λ k. f (i + suc k)) (λ k h. let g : suc i + k ≡ i + suc k = omega arith in ap f g) in
    omega (arith, sum_head n (λ k. f (i + k)))

from_zero : (f : ℕ → ℕ) (n : ℕ) → sum n (λ k. f (0 + k)) ≡ sum n f
from_zero f n = sum_eq n (λ k. f (0 + k)) f (λ k h. let z : 0 + k ≡ k = omega arith in ap f z)

map_rising : {A : Type 0} (f : A → ℕ) (g : ℕ → A) (i n : ℕ) → tally f (map g (rising i n)) ≡ sum n (λ k. f (g (i + k)))
unfolding tally sum
map_rising f g i zero = refl
map_rising f g i (suc n) = omega (arith, map_rising f g (suc i) n, from (λ k. f (g k)) i n)

pub tally_map : {A : Type 0} (f : A → ℕ) (g : ℕ → A) (n : ℕ) → tally f (map g (up_to n)) ≡ sum n (λ k. f (g k))
tally_map f g n = omega (arith, map_rising f g 0 n, from_zero (λ k. f (g k)) n)

flat_rising : {A : Type 0} (f : A → ℕ) (s : ℕ → List A) (i n : ℕ) → tally f (flat_map s (rising i n)) ≡ sum n (λ k. tally f (s (i + k)))
unfolding tally sum flat_map
flat_rising f s i zero = refl
flat_rising f s i (suc n) =
    omega (arith, tally_append f (s i) (flat_map s (rising (suc i) n)), flat_rising f s (suc i) n, from (λ k. tally f (s k)) i n)

pub tally_flat : {A : Type 0} (f : A → ℕ) (s : ℕ → List A) (n : ℕ) → tally f (flat_map s (up_to n)) ≡ sum n (λ k. tally f (s k))
tally_flat f s n = omega (arith, flat_rising f s 0 n, from_zero (λ k. tally f (s k)) n)

-- ── how many pass a test ──
pub length_select : {A : Type 0} (t : A → Bool) (x : A) (xs : List A) → length (select t (x ∷ xs)) ≡ one (t x) + length (select t xs)
unfolding select
length_select {A} t x xs = go (t x) (select t xs)
  where
    go : (b : Bool) (ys : List A) → length (cond b (x ∷ ys) ys) ≡ one b + length ys
    go true ys = omega arith
    go false ys = omega arith

pub selected : {A : Type 0} (t : A → Bool) (xs : List A) → length (select t xs) ≡ tally (λ x. one (t x)) xs
unfolding select tally
selected t [] = refl
selected t (x ∷ xs) = omega (arith, length_select t x xs, selected t xs)
