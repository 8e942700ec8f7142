-- Each step keeps the problem good, with the pairs as rows of a table: the laws of crate corner, by row.
-- Assumes a good problem and what the step asks for.
use Rattle.std.specs.Prelude.{◌≡◌, List, ◌∷◌, ◌⊎◌, ℕ, suc, ◌+◌, ◌≤◌, ◌<◌}
use Rattle.std.proofs.Common.{ap, ◌∙◌, sym, inl, inr, arith}
use Rattle.count.specs.Bits.{eq_case}
use Rattle.count.specs.Sum.{sum, sum_eq}
use Rattle.board.specs.declared.Vertex.{Vertex}
use Rattle.net.specs.declared.Pair.{Pair}
use Rattle.net.specs.Terminals.{same}
use Rattle.corner.specs.Pairs.{pair, tally, standing, Take, Proper, hits, across, SamePairs}
use Rattle.corner.proofs.Taking.{tally_take}
use Rattle.corner.proofs.Order.{good_same, good_drop}
use Rattle.corner.specs.Shape.{Shape, Good, Top, UL, NUL, BUL, narrow, lower, Full, Roomy, top_cut, left_cut}
use Rattle.corner.proofs.Steps.{split_good, helper-good, divide-nul, divide-least}
use Rattle.corner.proofs.Move.{move_right_at, move_down_at}
use Rattle.corner.specs.Trails.{hi}
use Rattle.router_notes.specs.Notes.{Item}
use Rattle.router_notes.specs.Update.{upd, upd_same, upd_other, sum_change}
use Rattle.router_notes.specs.Table.{pairs_of, Has, tally-of, has_tally, take_item, take_items}

-- ── split, in the table ──
pub split_table : (S : Shape) (n : ℕ) (it it' : ℕ → Item) (i j : ℕ) (s t : Vertex) → Good S (pairs_of n it) → Top S → S.a S.top < S.b S.top
    → S.top < S.bottom
    → Proper (pairs_of n it) → standing (same (UL S)) (pairs_of n it) ≡ 2 → i < n → j < n → (i ≡ j → ⊥) → Has (it i) (UL S) s → Has (it j) (UL S) t
    → (t.line ≤ S.top → s.line ≤ S.top) → (s.column ≤ S.a S.top → t.column ≤ S.a S.top)
    → Has (it' i) (NUL S) s → Has (it' j) (BUL S) t → ((k : ℕ) → (k ≡ i → ⊥) → (k ≡ j → ⊥) → it' k ≡ it k)
    → Good (narrow S) (pairs_of n it')
unfolding tally
split_table S n it it' i j s t G T wide deep pr z li lj ne hi hj fr fc hi' hj' others =
    let k = take_items n it i j li lj ne (UL S) s t hi hj in
    good_same (narrow S) (pair (NUL S) s ∷ pair (BUL S) t ∷ k.1) (pairs_of n it')
    (λ f e. omega (
      arith,
      tally_take f e (UL S) s k.2,
      tally_take f e (UL S) t k.3,
      tally-of f n it,
      tally-of f n it',
      change f,
      has_tally f e (it i) (UL S) s hi,
      has_tally f e (it j) (UL S) t hj,
      has_tally f e (it' i) (NUL S) s hi',
      has_tally f e (it' j) (BUL S) t hj',
    ))
    (split_good S (pairs_of n it) G T wide deep s t k.0 k.1 k.2 k.3 pr z fr fc)
  where
    half : ℕ → Item
    half = upd j (it j) it'

    half-j : (k : ℕ) → k ≡ j → half k ≡ it k
    half-j k e = rw e (upd_same j (it j) it')

    half-i : half i ≡ it' i
    half-i = upd_other j (it j) it' i ne

    change : (f : Vertex → Vertex → ℕ) → sum n (λ k. f (it' k).a (it' k).b) + f (it i).a (it i).b + f (it j).a (it j).b
        ≡ sum n (λ k. f (it k).a (it k).b) + f (it' i).a (it' i).b + f (it' j).a (it' j).b
    change f = omega (
      arith,
      sum_change n j (λ k. f (it' k).a (it' k).b) (λ k. f (half k).a (half k).b) lj
          (λ k q. ap (λ (x : Item). f x.a x.b) (sym (upd_other j (it j) it' k q))),
      sum_change n i (λ k. f (half k).a (half k).b) (λ k. f (it k).a (it k).b) li (λ k q. elim (eq_case k j) [
        | inl p ↦ ap (λ (x : Item). f x.a x.b) (half-j k p.2)
        | inr p ↦ ap (λ (x : Item). f x.a x.b) (upd_other j (it j) it' k p.2 ∙ others k q p.2)
      ]),
      ap (λ (x : Item). f x.a x.b) (upd_same j (it j) it'),
      ap (λ (x : Item). f x.a x.b) half-i,
    )

-- ── one edge, in the table ──
move_same : (n : ℕ) (it it' : ℕ → Item) (i : ℕ) (u w s : Vertex) (rest : List Pair) → i < n → Has (it i) u s → Has (it' i) w s
    → ((k : ℕ) → (k ≡ i → ⊥) → it' k ≡ it k)
    → Take u s (pairs_of n it) rest → SamePairs (pair w s ∷ rest) (pairs_of n it')
unfolding tally
move_same n it it' i u w s rest li hi hi' others tk f e = omega (
  arith,
  tally_take f e u s tk,
  tally-of f n it,
  tally-of f n it',
  sum_change n i (λ k. f (it' k).a (it' k).b) (λ k. f (it k).a (it k).b) li (λ k q. ap (λ (x : Item). f x.a x.b) (others k q)),
  has_tally f e (it i) u s hi,
  has_tally f e (it' i) w s hi',
)

pub right_table : (S : Shape) (n : ℕ) (it it' : ℕ → Item) (i : ℕ) (s : Vertex) → Good S (pairs_of n it) → Top S → S.a S.top < S.b S.top
    → S.top ≡ S.bottom
    → Proper (pairs_of n it) → i < n → Has (it i) (UL S) s → Has (it' i) (NUL S) s → ((k : ℕ) → (k ≡ i → ⊥) → it' k ≡ it k)
    → Good (narrow S) (pairs_of n it')
right_table S n it it' i s G T wide flat pr li hi hi' others = let k = take_item n it i li (UL S) s hi in
    good_same (narrow S) _ (pairs_of n it') (move_same n it it' i (UL S) (NUL S) s k.0 li hi hi' others k.1)
    (move_right_at S (pairs_of n it) G T wide flat pr s k.0 k.1)

pub down_table : (S : Shape) (n : ℕ) (it it' : ℕ → Item) (i : ℕ) (s : Vertex) → Good S (pairs_of n it) → Top S → S.a S.top ≡ S.b S.top
    → S.top < S.bottom
    → Proper (pairs_of n it) → i < n → Has (it i) (UL S) s → Has (it' i) (BUL S) s → ((k : ℕ) → (k ≡ i → ⊥) → it' k ≡ it k)
    → Good (lower S) (pairs_of n it')
down_table S n it it' i s G T thin deep pr li hi hi' others = let k = take_item n it i li (UL S) s hi in
    good_same (lower S) _ (pairs_of n it') (move_same n it it' i (UL S) (BUL S) s k.0 li hi hi' others k.1)
    (move_down_at S (pairs_of n it) G T thin deep pr s k.0 k.1)

-- ── helper, in the table ──
pub helper_table : (S : Shape) (n : ℕ) (it it' : ℕ → Item) (G : Good S (pairs_of n it)) → Top S → S.a S.top < S.b S.top → S.top < S.bottom
    → standing (same (UL S)) (pairs_of n it) ≡ 0 → Roomy S (pairs_of n it) (top_cut S) → Roomy S (pairs_of n it) (left_cut S)
    → Has (it' n) (NUL S) (BUL S) → ((k : ℕ) → k < n → it' k ≡ it k) → Good (narrow S) (pairs_of (suc n) it')
unfolding tally
helper_table S n it it' G T wide deep z kr kc h others = good_same (narrow S) (pair (NUL S) (BUL S) ∷ pairs_of n it) (pairs_of (suc n) it')
    (λ f e. omega (
      arith,
      tally-of f n it,
      tally-of f n it',
      has_tally f e (it' n) (NUL S) (BUL S) h,
      sum_eq n (λ k. f (it' k).a (it' k).b) (λ k. f (it k).a (it k).b) (λ k l. ap (λ (x : Item). f x.a x.b) (others k l)),
    ))
    (helper-good S (pairs_of n it) G T wide deep z kr kc)

-- ── divide, in the table ──
divide_same : (n : ℕ) (it it' : ℕ → Item) (i : ℕ) (p q u v : Vertex) (rest : List Pair) → i < n → Has (it i) p q
    → (Has (it' i) p u × Has (it' n) v q) ⊎ (Has (it' i) q v × Has (it' n) u p) → ((k : ℕ) → k < n → (k ≡ i → ⊥) → it' k ≡ it k)
    → Take p q (pairs_of n it) rest → SamePairs (pair p u ∷ pair v q ∷ rest) (pairs_of (suc n) it')
unfolding tally
divide_same n it it' i p q u v rest li hi hs others tk f e =
    let c = sum_change n i (λ k. f (lowered k).a (lowered k).b) (λ k. f (it k).a (it k).b) li
    (λ k q. ap (λ (x : Item). f x.a x.b) (upd_other i (it' i) it k q)) in
    let d = sum_eq n (λ k. f (it' k).a (it' k).b) (λ k. f (lowered k).a (lowered k).b) (λ k l. ap (λ (x : Item). f x.a x.b) (agree k l)) in
    let g = ap (λ (x : Item). f x.a x.b) (upd_same i (it' i) it) in
    elim hs [
      | inl h ↦ omega (
        arith,
        tally_take f e p q tk,
        tally-of f n it,
        tally-of f n it',
        has_tally f e (it i) p q hi,
        has_tally f e (it' i) p u h.0,
        has_tally f e (it' n) v q h.1,
      )
      | inr h ↦ omega (
        arith,
        tally_take f e p q tk,
        tally-of f n it,
        tally-of f n it',
        has_tally f e (it i) p q hi,
        has_tally f e (it' i) q v h.0,
        has_tally f e (it' n) u p h.1,
        e q v,
        e u p,
      )
    ]
  where
    lowered : ℕ → Item
    lowered = upd i (it' i) it

    agree : (k : ℕ) → k < n → it' k ≡ lowered k
    agree k l = elim (eq_case k i) [
      | inl q ↦ rw q.2 (sym (upd_same i (it' i) it))
      | inr q ↦ others k l q.2
          ∙ sym (upd_other i (it' i) it k q.2)
    ]

pub least_table : (S : Shape) (n : ℕ) (it it' : ℕ → Item) (i : ℕ) (p q : Vertex) (G : Good S (pairs_of n it)) → Top S → S.a S.top < S.b S.top
    → S.top < S.bottom
    → standing (same (UL S)) (pairs_of n it) ≡ 0 → Full S (pairs_of n it) (left_cut S) → i < n → Has (it i) p q
    → S.a S.top < p.column → q.column ≤ S.a S.top → ((r : ℕ) → r < p.line → hits (across (S.a S.top) r) (pairs_of n it) ≡ 0)
    → (Has (it' i) p (NUL S) × Has (it' n) (BUL S) q) ⊎ (Has (it' i) q (BUL S) × Has (it' n) (NUL S) p)
    → ((k : ℕ) → k < n → (k ≡ i → ⊥) → it' k ≡ it k)
    → Good (narrow S) (pairs_of (suc n) it')
least_table S n it it' i p q G T wide deep z k0 li hi hp hq lst hs others = let k = take_item n it i li p q hi in
    good_same (narrow S) _ (pairs_of (suc n) it') (divide_same n it it' i p q (NUL S) (BUL S) k.0 li hi hs others k.1)
    (divide-least S (pairs_of n it) G T wide deep p q k.0 k.1 z k0 hp hq lst)

pub nul_table : (S : Shape) (n : ℕ) (it it' : ℕ → Item) (i : ℕ) (q : Vertex) (G : Good S (pairs_of n it)) → Top S → S.a S.top < S.b S.top
    → S.top < S.bottom
    → standing (same (UL S)) (pairs_of n it) ≡ 0 → i < n → Has (it i) (NUL S) q → S.top < q.line → Roomy S (pairs_of n it) (left_cut S)
    → (Has (it' i) (NUL S) (NUL S) × Has (it' n) (BUL S) q) ⊎ (Has (it' i) q (BUL S) × Has (it' n) (NUL S) (NUL S))
    → ((k : ℕ) → k < n → (k ≡ i → ⊥) → it' k ≡ it k)
    → Good (narrow S) (pairs_of (suc n) it')
nul_table S n it it' i q G T wide deep z li hi low kc hs others = let k = take_item n it i li (NUL S) q hi in
    good_same (narrow S) _ (pairs_of (suc n) it') (divide_same n it it' i (NUL S) q (NUL S) (BUL S) k.0 li hi hs others k.1)
    (divide-nul S (pairs_of n it) G T wide deep q k.0 k.1 z low kc)

pub drop_table : (S : Shape) (n : ℕ) (it it' : ℕ → Item) (i : ℕ) → i ≤ n → ((j : ℕ) → j < n → (j ≡ i → ⊥) → it' j ≡ it j) → (i < n → it' i ≡ it n)
    → (it i).a ≡ (it i).b
    → Good S (pairs_of (suc n) it) → Good S (pairs_of n it')
unfolding tally
drop_table S n it it' i low others moved triv G = good_drop S (it i).a (pairs_of n it') (good_same S (pairs_of (suc n) it) _ (λ f e. go f e) G)
  where
    go : (f : Vertex → Vertex → ℕ) → ((u v : Vertex) → f u v ≡ f v u) → tally f (pairs_of (suc n) it) ≡ f (it i).a (it i).a + tally f (pairs_of n it')
    go f e = elim (eq_case i n) [
      | inl q ↦
          let c = sum_eq n (λ k. f (it' k).a (it' k).b) (λ k. f (it k).a (it k).b)
          (λ k l. ap (λ (x : Item). f x.a x.b) (others k l (λ z. omega (arith, q.2)))) in
          let d : f (it i).a (it i).a ≡ f (it n).a (it n).b = ap (f (it i).a) triv ∙ ap (λ k. f (it k).a (it k).b) q.2 in
          omega (arith, tally-of f n it, tally-of f n it')
      | inr q ↦
          let lowered = upd i (it n) it in
          let c = sum_change n i (λ k. f (upd i (it n) it k).a (upd i (it n) it k).b) (λ k. f (it k).a (it k).b) (omega (arith, q.2))
          (λ k z. ap (λ (x : Item). f x.a x.b) (upd_other i (it n) it k z)) in
          let d = sum_eq n (λ k. f (it' k).a (it' k).b) (λ k. f (upd i (it n) it k).a (upd i (it n) it k).b)
          (λ k l. ap (λ (x : Item). f x.a x.b) (agree (omega (arith, q.2)) k l)) in
          let g = ap (λ (x : Item). f x.a x.b) (upd_same i (it n) it) in
          let h : f (it i).a (it i).a ≡ f (it i).a (it i).b = ap (f (it i).a) triv in
          omega (arith, tally-of f n it, tally-of f n it')
    ]
      where
        agree : i < n → (k : ℕ) → k < n → it' k ≡ upd i (it n) it k
        agree b k l = elim (eq_case k i) [
          | inl q ↦ rw q.2 (moved b ∙ sym (upd_same i (it n) it))
          | inr q ↦ others k l q.2
              ∙ sym (upd_other i (it n) it k q.2)
        ]
