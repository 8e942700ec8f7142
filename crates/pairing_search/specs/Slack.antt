-- What is left at the cuts: how one pair more lowers it, and that it tells whether a cut is overfull.
-- Assumes nothing.
use Rattle.std.specs.Prelude.{◌≡◌, refl, true, false, List, [], ◌∷◌, ℕ, ◌+◌, ◌-◌, ◌≤◌, ◌<◌, length, get_or, set, replicate, Option, None, Some}
use Rattle.std.proofs.Common.{ap, sym, subst, ◌∙◌, inl, inr, arith, lt-ltb, le-ltb, length-set, get_or-set_same, get_or-set_other}
use Rattle.std.proofs.lemmas.List.{length-replicate}
use Rattle.count.specs.Truth.{one}
use Rattle.count.specs.TruthLaws.{not_true, le_or_lt, eq_or_ne}
use Rattle.board.specs.Board.{Board, height}
use Rattle.net.specs.declared.Pair.{Pair}
use Rattle.cut.specs.declared.Cut.{Cut}
use Rattle.cut.specs.declared.Cut.TheVariants.{Row, Column}
use Rattle.cut.specs.Cut.{edges, crosses, crossing, Overfull, overfull_cuts}
use Rattle.cut.specs.Order.{IsCut}
use Rattle.cut.specs.First.{no-overfull}
use Rattle.cut.specs.Laws.{overfull_more}
use Rattle.pairing.specs.Search.{open?}
use Rattle.pairing.proofs.Test.{open_exact}
use Rattle.pairing_search.specs.View.{cut_at, Left, Lowers}

-- ── the cuts by number ──
pub cut_column : (j : ℕ) → j < 31 → cut_at j ≡ Column j
cut_column j h = rw (lt-ltb j 31 h) refl

pub cut-row : (i : ℕ) → cut_at (31 + i) ≡ Row i
cut-row i = let e : 31 + i - 31 ≡ i = omega arith in rw (le-ltb (31 + i) 31 (omega arith), e) refl

-- a fact of every number below 31 + h is one of every cut
each_cut : (b : Board) (P : Cut → Type 0) → ((i : ℕ) → i < 31 + height b → P (cut_at i)) → (x : Cut) → IsCut b x → P x
each_cut b P h (Row i) k = subst P (cut-row i) (h (31 + i) (omega arith))
each_cut b P h (Column j) k = subst P (cut_column j k) (h j (omega arith))

is_cut : (b : Board) (i : ℕ) → i < 31 + height b → IsCut b (cut_at i)
is_cut b i h = elim (le_or_lt 31 i) [
  | inl k ↦ let e : i ≡ 31 + (i - 31) = omega arith in subst (IsCut b) (sym (ap cut_at e ∙ cut-row (i - 31))) (omega arith)
  | inr k ↦ subst (IsCut b) (sym (cut_column i k)) k
]

-- ── overfull or not ──
pub open_counts : (b : Board) (qs : List Pair) → ((i : ℕ) → i < 31 + height b → crossing (cut_at i) qs ≤ edges b (cut_at i)) → open? b qs ≡ true
open_counts b qs h = (open_exact b qs).1 ((no-overfull b qs).1
    (each_cut b (λ x. Overfull b qs x → ⊥) (λ i k o. omega (arith, (overfull_more b qs (cut_at i)).0 o, h i k))))

pub shut_counts : (b : Board) (qs : List Pair) (i : ℕ) → i < 31 + height b → edges b (cut_at i) < crossing (cut_at i) qs → open? b qs ≡ false
shut_counts b qs i h l = not_true (open? b qs)
    (λ e. (no-overfull b qs).0 ((open_exact b qs).0 e) (cut_at i) (is_cut b i h) ((overfull_more b qs (cut_at i)).1 l))

module _ (b : Board) (qs : List Pair) (m : ℕ) (a : List ℕ) (L : Left b qs m a) where
  pub left_open : open? b qs ≡ true
  left_open = open_counts b qs (λ i h. omega (arith, L.here i (omega (arith, L.all))))

  module _ (p : Pair) (r : Option (List ℕ)) (K : Lowers p m a r) where
    pub left_more : (rest : List ℕ) → r ≡ Some rest → Left b (p ∷ qs) m rest
    unfolding crossing
    left_more rest e = record { all = L.all; here = λ i h. omega (arith, L.here i h, K.fit rest e i h) }

    pub left-full : r ≡ None → open? b (p ∷ qs) ≡ false
    unfolding crossing
    left-full e = let f = K.full e in shut_counts b (p ∷ qs) f.0 (omega (arith, f.1, L.all)) (omega (arith, f.2, L.here f.0 f.1))

-- ── the loop over the cuts ──
-- DEFINITION: the first i cuts are lowered
pub record Lowering (p : Pair) (a r : List ℕ) (i : ℕ) : Type 0 where
  pub done : (k : ℕ) → k < i → get_or r k 0 + one (crosses (cut_at k) p) ≡ get_or a k 0
  pub rest : (k : ℕ) → i ≤ k → get_or r k 0 ≡ get_or a k 0

pub lowering_start : (p : Pair) (a : List ℕ) → Lowering p a a 0
lowering_start p a = record { done = λ k h. absurd (omega arith); rest = λ k h. refl }

module _ (p : Pair) (a r : List ℕ) (i w u : ℕ) (L : Lowering p a r i) (e : w ≡ i) (f : u ≡ one (crosses (cut_at i) p)) where
  pub lowering-more : i < length r → u ≤ get_or r w 0 → Lowering p a (set r w (get_or r w 0 - u)) (i + 1)
  lowering-more l h = let v = get_or r w 0 - u in record {
    done = λ k q. elim (eq_or_ne k w) [
      | inl g ↦
          let x : get_or (set r w v) k 0 ≡ v = ap (λ n. get_or (set r w v) n 0) g ∙ get_or-set_same r w v 0 (omega arith) in
          let y : one (crosses (cut_at k) p) ≡ u = ap (λ n. one (crosses (cut_at n) p)) (g ∙ e) ∙ sym f in
          omega (arith, L.rest k (omega arith), ap (λ n. get_or r n 0) g)
      | inr g ↦ omega (arith, get_or-set_other r w k v 0 g, L.done k (omega arith))
    ];
    rest = λ k q. get_or-set_other r w k v 0 (λ g. omega arith) ∙ L.rest k (omega arith);
  }

  pub lowering-full : (m : ℕ) → i < m → get_or r w 0 < u → Lowers p m a None
  lowering-full m l h = record {
    fit = λ t g. absurd (cc);
    full = λ t. (i, l, omega (arith, L.rest i (omega arith), ap (λ n. get_or r n 0) e));
  }

pub lowering_done : (p : Pair) (m : ℕ) (a r : List ℕ) (i : ℕ) → Lowering p a r i → m ≤ i → Lowers p m a (Some r)
lowering_done p m a r i L e = record {
  fit = λ t g k h. let same : t ≡ r = cc in rw same (L.done k (omega arith));
  full = λ t. absurd (cc);
}

-- ── what the nets leave ──
-- where no cut is overfull, no more nets cross a cut than it has edges
pub open_cut : (b : Board) (qs : List Pair) → overfull_cuts b qs ≡ [] → (i : ℕ) → i < 31 + height b → crossing (cut_at i) qs ≤ edges b (cut_at i)
open_cut b qs e i h = elim (le_or_lt (crossing (cut_at i) qs) (edges b (cut_at i))) [
  | inl k ↦ k
  | inr k ↦ absurd ((no-overfull b qs).0 e (cut_at i) (is_cut b i h) ((overfull_more b qs (cut_at i)).1 k))
]

-- DEFINITION: the first i cuts are filled in
pub record Filling (b : Board) (qs : List Pair) (a : List ℕ) (i : ℕ) : Type 0 where
  pub long : length a ≡ 62
  pub here : (k : ℕ) → k < i → get_or a k 0 + crossing (cut_at k) qs ≡ edges b (cut_at k)

pub filling_start : (b : Board) (qs : List Pair) → Filling b qs (replicate 62 0) 0
filling_start b qs = record { long = length-replicate {A = ℕ} 62 0; here = λ k h. absurd (omega arith) }

module _ (b : Board) (qs : List Pair) (a : List ℕ) (i w e u : ℕ) (F : Filling b qs a i) (p : w ≡ i)
    (f : e ≡ edges b (cut_at i)) (g : u ≡ crossing (cut_at i) qs) where
  pub filling-more : i < 62 → u ≤ e → Filling b qs (set a w (e - u)) (i + 1)
  filling-more l h = record {
    long = length-set a w (e - u) ∙ F.long;
    here = λ k q. elim (eq_or_ne k w) [
      | inl s ↦
          let x : get_or (set a w (e - u)) k 0 ≡ e - u =
          ap (λ n. get_or (set a w (e - u)) n 0) s ∙ get_or-set_same a w (e - u) 0 (omega (arith, F.long)) in
          omega (arith, ap (λ n. edges b (cut_at n)) (s ∙ p), ap (λ n. crossing (cut_at n) qs) (s ∙ p))
      | inr s ↦ omega (arith, get_or-set_other a w k (e - u) 0 s, F.here k (omega arith))
    ];
  }

pub filling_done : (b : Board) (qs : List Pair) (a : List ℕ) (i m : ℕ) → Filling b qs a i → m ≡ 31 + height b → m ≤ i → Left b qs m a
filling_done b qs a i m F t h = record { all = t; here = λ k q. F.here k (omega arith) }
