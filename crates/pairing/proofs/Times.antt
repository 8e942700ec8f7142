-- How often a vertex stands in a list, and what taking one vertex out of the list does to that.
-- Assumes nothing.
use Rattle.std.specs.Prelude.{◌≡◌, refl, List, [], ◌∷◌, ◌++◌, ℕ, zero, suc, ◌+◌, ◌≤◌, ◌<◌, length, get_or, set, drop}
use Rattle.std.proofs.Common.{ap, inl, inr, arith, length-set, length-drop}
use Rattle.count.specs.Truth.{one}
use Rattle.count.specs.TruthLaws.{bool}
use Rattle.board.specs.Board.{at}
use Rattle.board.specs.declared.Vertex.{Vertex}
use Rattle.net.specs.Terminals.{same}
use Rattle.net.specs.Same.{same_true}
use Rattle.pairing.specs.Search.{others}

-- DEFINITION: how often x stands in the list
unfoldable pub times : Vertex → List Vertex → ℕ
times x [] = 0
times x (v ∷ vs) = one (same x v) + times x vs

pub times_append : (x : Vertex) (us vs : List Vertex) → times x (us ++ vs) ≡ times x us + times x vs
unfolding times
times_append x [] vs = omega arith
times_append x (u ∷ us) vs = omega (arith, times_append x us vs)

times_set : (x : Vertex) (vs : List Vertex) (k : ℕ) (u d : Vertex) → k < length vs
    → times x (set vs k u) + one (same x (get_or vs k d)) ≡ times x vs + one (same x u)
unfolding times
times_set x [] k u d h = absurd (omega arith)
times_set x (v ∷ vs) zero u d h = omega arith
times_set x (v ∷ vs) (suc k) u d h = omega (arith, times_set x vs k u d (omega arith))

times_rest : (x : Vertex) (vs : List Vertex) → 0 < length vs → times x vs ≡ one (same x (get_or vs 0 (at 0 0))) + times x (drop 1 vs)
unfolding times
times_rest x [] h = absurd (omega arith)
times_rest x (v ∷ vs) h = refl

set_head : (vs : List Vertex) (k : ℕ) → get_or (set vs k (get_or vs 0 (at 0 0))) 0 (at 0 0) ≡ get_or vs 0 (at 0 0)
set_head [] k = refl
set_head (v ∷ vs) zero = refl
set_head (v ∷ vs) (suc k) = refl

pub times_others : (x : Vertex) (vs : List Vertex) (k : ℕ) → k < length vs
    → times x vs ≡ one (same x (get_or vs k (at 0 0))) + times x (others vs k)
times_others x vs k h =
    let u = get_or vs 0 (at 0 0) in
    let l = length-set vs k u in
    omega (arith, times_set x vs k u (at 0 0) h, times_rest x (set vs k u) (omega arith), ap (λ w. one (same x w)) (set_head vs k))

pub length_others : (vs : List Vertex) (k n : ℕ) → length vs ≡ suc n → length (others vs k) ≡ n
length_others vs k n e = omega (arith, length-drop 1 (set vs k (get_or vs 0 (at 0 0))), length-set vs k (get_or vs 0 (at 0 0)))

pub times_found : (x : Vertex) (vs : List Vertex) → 1 ≤ times x vs → (k : ℕ) × (k < length vs) × (x ≡ get_or vs k (at 0 0))
unfolding times
times_found x [] h = absurd (omega arith)
times_found x (v ∷ vs) h = elim (bool (same x v)) [
  | inl e ↦ (0, omega arith, same_true x v e)
  | inr e ↦ let r = times_found x vs (omega (arith, ap one e)) in (suc r.0, omega (arith, r.1), r.2)
]
