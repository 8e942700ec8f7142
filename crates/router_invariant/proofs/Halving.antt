-- The notes of a division: what the stores into half, s1, s2, d1, d2 leave of the other pairs' notes, and what they say of the pair that is divided.
-- Assumes that halves have numbers below `next`.
use Rattle.std.specs.Prelude.{◌≡◌, refl, ◌⊎◌, ℕ, zero, suc, ◌+◌, ◌<◌, set}
use Rattle.std.proofs.Common.{ap, ◌∙◌, arith, length-set}
use mathlib.Core.List.{List, [], ◌∷◌}
use Rattle.std.proofs.Math.Logic.{inl, inr}
use Rattle.std.proofs.Math.ListN.{length, get_or}
use Rattle.std.proofs.Math.Seq.{get_or-set_same, get_or-set_other}
use borrow.Author.Tests.{eq-eqb, ne_eqb, lt-ltb}
use Rattle.count.specs.Bits.{eq_case}
use Rattle.router_notes.specs.Limits.{last_pair}
use Rattle.router_notes.specs.Notes.{finish, item, parted}
use Rattle.router_notes.specs.Arrays.{vtx, move_d, partD}
use Rattle.router_invariant.specs.Run.{Halves, Directed}

-- what is stored in a list is one of two things
pub stored : (l : List ℕ) (i v k : ℕ) → (get_or (set l i v) k 0 ≡ v) ⊎ (get_or (set l i v) k 0 ≡ get_or l k 0)
stored [] i v k = inr refl
stored (y ∷ l) zero v zero = inl refl
stored (y ∷ l) zero v (suc k) = inr refl
stored (y ∷ l) (suc i) v zero = inr refl
stored (y ∷ l) (suc i) v (suc k) = stored l i v k

pub directed_kept : (d : List ℕ) (i v : ℕ) → Directed d → v < 4 → Directed (set d i v)
directed_kept d i v h b k = elim (stored d i v k) [ inl e ↦ omega (arith, e) | inr e ↦ omega (arith, e, h k) ]

module _ (side vert half s1 s2 d1 d2 : List ℕ) (k0 next a1 b1 a2 b2 x y : ℕ) (H : Halves half next) where
  abbrev half' : List ℕ
  half' = set half k0 next

  abbrev s1' : List ℕ
  s1' = set (set s1 next a1) (next + 1) a2

  abbrev s2' : List ℕ
  s2' = set (set s2 next b1) (next + 1) b2

  abbrev d1' : List ℕ
  d1' = set d1 k0 x

  abbrev d2' : List ℕ
  d2' = set d2 k0 y

  pub old-kept : (l : List ℕ) (p q h : ℕ) → h < next → get_or (set (set l next p) (next + 1) q) h 0 ≡ get_or l h 0
  old-kept l p q h b = get_or-set_other (set l next p) (next + 1) h q 0 (λ e. omega arith) ∙ get_or-set_other l next h p 0 (λ e. omega arith)

  pub part-other : (k : ℕ) → (k ≡ k0 → ⊥) → partD side vert half' s1' s2' d1' d2' k ≡ partD side vert half s1 s2 d1 d2 k
  unfolding partD
  part-other k n = elim (H k) [
    | inl e ↦ rw (get_or-set_other half k0 k next 0 n, eq-eqb (get_or half k 0) 0 e)
    | inr e ↦ rw (
      get_or-set_other half k0 k next 0 n,
      get_or-set_other d1 k0 k x 0 n,
      get_or-set_other d2 k0 k y 0 n,
      old-kept s1 a1 a2 (get_or half k 0) (omega (arith, e.1)),
      old-kept s2 b1 b2 (get_or half k 0) (omega (arith, e.1)),
      old-kept s1 a1 a2 (get_or half k 0 + 1) (omega (arith, e.1)),
      old-kept s2 b1 b2 (get_or half k 0 + 1) (omega (arith, e.1)),
    )
  ]

  pub part-here : k0 < length half → k0 < length d1 → k0 < length d2 → next + 1 < length s1 → next + 1 < length s2 → 0 < next → next < last_pair
      → partD side vert half' s1' s2' d1' d2' k0 ≡ parted (item next (vtx a1) (vtx b1)) (move_d x (vtx b1)) (move_d y (finish (move_d x (vtx b1))))
      (item (next + 1) (vtx a2) (vtx b2))
  unfolding partD
  part-here lh l1 l2 ls1 ls2 pos few = rw (
    get_or-set_same half k0 next 0 lh,
    ne_eqb next 0 (λ e. omega arith),
    lt-ltb next last_pair few,
    get_or-set_same d1 k0 x 0 l1,
    get_or-set_same d2 k0 y 0 l2,
    first s1 a1 a2 (omega arith),
    first s2 b1 b2 (omega arith),
    second s1 a1 a2 ls1,
    second s2 b1 b2 ls2,
  )
    where
      first : (l : List ℕ) (p q : ℕ) → next < length l → get_or (set (set l next p) (next + 1) q) next 0 ≡ p
      first l p q b = get_or-set_other (set l next p) (next + 1) next q 0 (λ e. omega arith) ∙ get_or-set_same l next p 0 b

      second : (l : List ℕ) (p q : ℕ) → next + 1 < length l → get_or (set (set l next p) (next + 1) q) (next + 1) 0 ≡ q
      second l p q b = get_or-set_same (set l next p) (next + 1) q 0 (let e = length-set l next p in omega arith)

  pub halves-kept : k0 < next → k0 < length half → Halves half' (next + 2)
  halves-kept b z k = elim (eq_case k k0) [
    | inl q ↦ let e : get_or half' k 0 ≡ next = ap (λ t. get_or half' t 0) q.2 ∙ get_or-set_same half k0 next 0 z in
        inr (omega (arith, q.2), omega arith)
    | inr q ↦ let e : get_or half' k 0 ≡ get_or half k 0 = get_or-set_other half k0 k next 0 q.2 in elim (H k) [
      | inl h ↦ inl (e ∙ h)
      | inr h ↦ inr (omega (arith, h.0), omega (arith, h.1))
    ]
  ]
