-- Sums over the unit edges of the frame, and the length of moves that stay in it.
-- Assumes nothing.
use Rattle.std.specs.Prelude.{◌≡◌, List, [], ◌∷◌, ℕ, ◌+◌, ◌≤◌, ◌<◌, length}
use Rattle.std.proofs.Common.{ap, ◌∙◌, arith}
use Rattle.count.specs.Truth.{one}
use Rattle.count.specs.Sum.{sum, sum_eq}
use Rattle.count.specs.Sums.{sum_le, sum_add, sum_get, sum_const}
use Rattle.corner.specs.Shape.{size}
use Rattle.corner.specs.Trails.{Link, hor, ver, same_link}
use Rattle.corner.proofs.TrailLaws.{link_self}
use Rattle.router_notes.specs.Limits.{path_limit}
use Rattle.router_notes.specs.Notes.{Move, edge, uses}
use Rattle.router_notes.specs.Moves.{uses_cons}

-- a unit edge of the frame
abbrev pub InFrame : Link → Type 0
InFrame (hor l c) = (l < size) × (c < size)
InFrame (ver l c) = (l < size) × (c < size)

-- DEFINITION: f summed over the unit edges of the frame
unfoldable pub both : (Link → ℕ) → ℕ → ℕ → ℕ
both f l c = f (hor l c) + f (ver l c)

unfoldable pub all : (Link → ℕ) → ℕ
all f = sum size (λ l. sum size (λ c. both f l c))

pub all_add : (f g : Link → ℕ) → all (λ e. f e + g e) ≡ all f + all g
unfolding all both
all_add f g = sum_eq size _ _ (λ l h. sum_eq size _ (λ c. (f (hor l c) + f (ver l c)) + (g (hor l c) + g (ver l c))) (λ c k. omega arith)
    ∙ sum_add size _ _) ∙ sum_add size _ _

pub all_le : (f g : Link → ℕ) → ((e : Link) → f e ≤ g e) → all f ≤ all g
unfolding all both
all_le f g h = sum_le size _ _ (λ l a. sum_le size _ _ (λ c b. omega (arith, h (hor l c), h (ver l c))))

pub all_get : (f : Link → ℕ) (e : Link) → InFrame e → f e ≤ all f
unfolding all both
all_get f (hor l c) i =
    let a = sum_get size c (λ c. f (hor l c) + f (ver l c)) i.1 in
    let b = sum_get size l (λ l. sum size (λ c. f (hor l c) + f (ver l c))) i.0 in
    omega arith
all_get f (ver l c) i =
    let a = sum_get size c (λ c. f (hor l c) + f (ver l c)) i.1 in
    let b = sum_get size l (λ l. sum size (λ c. f (hor l c) + f (ver l c))) i.0 in
    omega arith

pub all_ones : all (λ e. 1) ≡ path_limit
unfolding all both size
all_ones = sum_eq 32 _ (λ l. 64) (λ l h. sum_const 32 2) ∙ sum_const 32 64

-- moves along unit edges of the frame are as many as their uses
pub length_all : (ms : List Move) → ((e : Link) → 1 ≤ uses e ms → InFrame e) → length ms ≤ all (λ e. uses e ms)
length_all [] h = omega arith
length_all (m ∷ ms) h =
    let r = length_all ms (λ e l. h e (omega (arith, uses_cons e m ms))) in
    let i = h (edge m) (omega (arith, uses_cons (edge m) m ms, ap one (link_self (edge m)))) in
    let a = all_get (λ e. one (same_link e (edge m))) (edge m) i in
    let b = all_add (λ e. one (same_link e (edge m))) (λ e. uses e ms) in
    let c = all_le (λ e. one (same_link e (edge m)) + uses e ms) (λ e. uses e (m ∷ ms)) (λ e. omega (arith, uses_cons e m ms)) in
    omega (arith, ap one (link_self (edge m)))
