-- An array over the vertices with the entry of one vertex changed.
-- Assumes nothing.
use Rattle.std.specs.Prelude.{◌≡◌, refl, Bool, true, false, cond, List, ℕ, ◌+◌, ◌*◌, ◌<◌, ltb, length, get_or, set}
use Rattle.std.proofs.Common.{inl, inr, arith, length-set, get_or-set_same, get_or-set_other, lt-ltb, ltb-true}
use Rattle.count.specs.TruthLaws.{bool, clash}
use Rattle.count.specs.Bits.{digits_apart}
use Rattle.board.specs.Board.{at}
use Rattle.net.specs.Terminals.{same}
use Rattle.net.specs.Same.{same_exact}
use Rattle.net.specs.Grid.{changed_at}

pub length_changed : (f : ℕ → ℕ) (l c : ℕ) (a : List ℕ) → length (changed_at f l c a) ≡ length a
unfolding changed_at
length_changed f l c a = go (ltb l 32) (ltb c 32)
  where
    go : (s t : Bool) → length (cond s (cond t (set a (l * 32 + c) (f (get_or a (l * 32 + c) 0))) a) a) ≡ length a
    go true true = length-set a (l * 32 + c) (f (get_or a (l * 32 + c) 0))
    go true false = refl
    go false t = refl

pub changed_same : (f : ℕ → ℕ) (l c : ℕ) (a : List ℕ) → length a ≡ 1024 → l < 32 → c < 32
    → get_or (changed_at f l c a) (l * 32 + c) 0 ≡ f (get_or a (l * 32 + c) 0)
unfolding changed_at
changed_same f l c a e p q = rw (lt-ltb l 32 p, lt-ltb c 32 q) (get_or-set_same a (l * 32 + c) (f (get_or a (l * 32 + c) 0)) 0 (omega arith))

pub changed_other : (f : ℕ → ℕ) (l c m d : ℕ) (a : List ℕ) → same (at l c) (at m d) ≡ false → d < 32
    → get_or (changed_at f l c a) (m * 32 + d) 0 ≡ get_or a (m * 32 + d) 0
unfolding changed_at
changed_other f l c m d a s p = elim (bool (ltb l 32)) [
  | inl t ↦ elim (bool (ltb c 32)) [
    | inl u ↦
        let n : m * 32 + d ≡ l * 32 + c → ⊥ = λ e.
        let x = digits_apart m d l c p (ltb-true c 32 u) e in
        clash ((same_exact (at l c) (at m d)).1 (rw (x.0, x.1) refl)) s in
        rw (t, u) (get_or-set_other a (l * 32 + c) (m * 32 + d) (f (get_or a (l * 32 + c) 0)) 0 n)
    | inr u ↦ rw (t, u) refl
  ]
  | inr t ↦ rw t refl
]
