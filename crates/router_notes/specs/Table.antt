-- The live pairs of a state as a list, and pairs taken out of it by their row.
-- Assumes nothing.
use Rattle.std.specs.Prelude.{◌≡◌, refl, List, [], ◌∷◌, ◌⊎◌, ℕ, zero, suc, ◌<◌}
use Rattle.std.proofs.Common.{ap₂, ◌∙◌, sym, subst, inl, inr, arith}
use Rattle.count.specs.Bits.{eq_case}
use Rattle.count.specs.Sum.{sum}
use Rattle.board.specs.declared.Vertex.{Vertex}
use Rattle.net.specs.declared.Pair.{Pair}
use Rattle.corner.specs.Pairs.{pair, tally, Take, here, back, there}
use Rattle.corner.specs.Trails.{hi}
use Rattle.router_notes.specs.Notes.{Item}

-- DEFINITION: the ends of n pairs, the last first
abbrev pub pairs_of : ℕ → (ℕ → Item) → List Pair
pairs_of zero it = []
pairs_of (suc n) it = pair (it n).a (it n).b ∷ pairs_of n it

-- DEFINITION: the item's ends are u and s
abbrev pub Has : Item → Vertex → Vertex → Type 0
Has x u s = ((x.a ≡ u) × (x.b ≡ s)) ⊎ ((x.b ≡ u) × (x.a ≡ s))

pub tally-of : (f : Vertex → Vertex → ℕ) (n : ℕ) (it : ℕ → Item) → tally f (pairs_of n it) ≡ sum n (λ i. f (it i).a (it i).b)
unfolding tally sum
tally-of f zero it = refl
tally-of f (suc n) it = omega (arith, tally-of f n it)

pub has_tally : (f : Vertex → Vertex → ℕ) → ((u v : Vertex) → f u v ≡ f v u) → (x : Item) (u s : Vertex) → Has x u s → f x.a x.b ≡ f u s
has_tally f e x u s (inl h) = ap₂ f h.0 h.1
has_tally f e x u s (inr h) = ap₂ f h.1 h.0 ∙ e s u

take_head : (x : Item) (u s : Vertex) (ps : List Pair) → Has x u s → Take u s (pair x.a x.b ∷ ps) ps
take_head x u s ps (inl h) = subst (λ v. Take u s (pair v x.b ∷ ps) ps) (sym h.0) (subst (λ v. Take u s (pair u v ∷ ps) ps) (sym h.1) here)
take_head x u s ps (inr h) = subst (λ v. Take u s (pair v x.b ∷ ps) ps) (sym h.1) (subst (λ v. Take u s (pair s v ∷ ps) ps) (sym h.0) back)

pub take_item : (n : ℕ) (it : ℕ → Item) (i : ℕ) → i < n → (u s : Vertex) → Has (it i) u s → (rest : List Pair) × Take u s (pairs_of n it) rest
take_item zero it i l u s h = absurd (omega arith)
take_item (suc n) it i l u s h = elim (eq_case i n) [
  | inl q ↦ (pairs_of n it, take_head (it n) u s (pairs_of n it) (subst (λ k. Has (it k) u s) q.2 h))
  | inr q ↦ let r = take_item n it i (omega (arith, q.2)) u s h in (pair (it n).a (it n).b ∷ r.0, there r.1)
]

pub take_items : (n : ℕ) (it : ℕ → Item) (i j : ℕ) → i < n → j < n → (i ≡ j → ⊥) → (u s t : Vertex) → Has (it i) u s → Has (it j) u t
    → (rest1 : List Pair) × (rest : List Pair) × Take u s (pairs_of n it) rest1 × Take u t rest1 rest
take_items zero it i j li lj ne u s t hi hj = absurd (omega arith)
take_items (suc n) it i j li lj ne u s t hi hj = elim (eq_case i n) [
  | inl q ↦
      let r = take_item n it j (omega (arith, q.2, ne)) u t hj in
      (pairs_of n it, r.0, take_head (it n) u s (pairs_of n it) (subst (λ k. Has (it k) u s) q.2 hi), r.1)
  | inr q ↦ elim (eq_case j n) [
    | inl p ↦
        let r = take_item n it i (omega (arith, q.2)) u s hi in
        (pair (it n).a (it n).b ∷ r.0, r.0, there r.1, take_head (it n) u t r.0 (subst (λ k. Has (it k) u t) p.2 hj))
    | inr p ↦
        let r = take_items n it i j (omega (arith, q.2)) (omega (arith, p.2)) ne u s t hi hj in
        (pair (it n).a (it n).b ∷ r.0, pair (it n).a (it n).b ∷ r.1, there r.2, there r.3)
  ]
]
