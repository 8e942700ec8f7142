-- The peeling of rows succeeds exactly on the nested boards that never regrow.
-- Assumes that the board is within the limits.
use Rattle.std.specs.Prelude.{◌≡◌, refl, true, List, ◌⊎◌, ◌↔◌, leb}
use Rattle.std.proofs.Math.Logic.{inl, inr}
use Prim.Native.Nat.{ℕ, zero, suc, ◌+◌, ◌-◌, ◌≤◌, ◌<◌}
use Rattle.std.proofs.Common.{arith, leb-true, le-leb}
use Rattle.count.specs.TruthLaws.{bool, clash, and_true, and_yes, le_or_lt}
use Rattle.board.specs.Board.{Board, Within, height, left, right}
use Rattle.board.specs.declared.Row.{Row}
use Rattle.board_convex.specs.Form.{Contains, Nested, NeverRegrow}
use Rattle.board_convex.specs.Test.{row, contains?, peels, innermost}
use Rattle.board_convex.proofs.Between.{between-contains}

-- DEFINITION: row i contains the columns of `inner`
abbrev Holds : Board → ℕ → Row → Type 0
Holds b i inner = (left b i ≤ inner.left) × (inner.right ≤ right b i)

holds : (b : Board) (i : ℕ) (inner : Row) → contains? (row b.rows i) inner ≡ true → Holds b i inner
unfolding contains?
holds b i inner e =
    let k = and_true (leb (left b i) inner.left) (leb inner.right (right b i)) e in
    (leb-true _ _ k.0, leb-true _ _ k.1)

holds_yes : (b : Board) (i : ℕ) (inner : Row) → Holds b i inner → contains? (row b.rows i) inner ≡ true
unfolding contains?
holds_yes b i inner h =
    and_yes (leb (left b i) inner.left) (leb inner.right (right b i)) (le-leb _ _ h.0) (le-leb _ _ h.1)

-- ── what the peeling of rows lo to hi shows: all contain `inner`, any two are nested, and of three the middle one contains another ──
record Chain (b : Board) (inner : Row) (lo hi : ℕ) : Type 0 where
  core : (i : ℕ) → lo ≤ i → i ≤ hi → Holds b i inner
  nest : (i j : ℕ) → lo ≤ i → i < j → j ≤ hi → Contains b i j ⊎ Contains b j i
  middle : (i j k : ℕ) → lo ≤ i → i < j → j < k → k ≤ hi → Contains b j i ⊎ Contains b j k

one_row : (b : Board) (inner : Row) (lo : ℕ) → Holds b lo inner → Chain b inner lo lo
one_row b inner lo h = record {
  core = λ i p q. let e : i ≡ lo = omega arith in rw e h;
  nest = λ i j p q r. absurd (omega arith);
  middle = λ i j k p q r s. absurd (omega arith);
}

-- one row more above, or below
more_above : (b : Board) (inner : Row) (lo hi : ℕ) → Holds b lo inner → Chain b (row b.rows lo) (suc lo) hi → Chain b inner lo hi
more_above b inner lo hi h C = record {
  core = λ i p q. elim (le_or_lt i lo) [
    | inl r ↦ let e : i ≡ lo = omega arith in rw e h
    | inr r ↦ let t = C.core i r q in (omega arith, omega arith)
  ];
  nest = λ i j p q r. elim (le_or_lt i lo) [
    | inl s ↦ let e : i ≡ lo = omega arith in rw e (inr (C.core j (omega arith) r))
    | inr s ↦ C.nest i j s q r
  ];
  middle = λ i j k p q r s. elim (le_or_lt i lo) [
    | inl t ↦ let e : i ≡ lo = omega arith in rw e (inl (C.core j (omega arith) (omega arith)))
    | inr t ↦ C.middle i j k t q r s
  ];
}

more_below : (b : Board) (inner : Row) (lo hi : ℕ) → Holds b (suc hi) inner → Chain b (row b.rows (suc hi)) lo hi → Chain b inner lo (suc hi)
more_below b inner lo hi h C = record {
  core = λ i p q. elim (le_or_lt i hi) [
    | inl r ↦ let t = C.core i p r in (omega arith, omega arith)
    | inr r ↦ let e : i ≡ suc hi = omega arith in rw e h
  ];
  nest = λ i j p q r. elim (le_or_lt j hi) [
    | inl s ↦ C.nest i j p q s
    | inr s ↦ let e : j ≡ suc hi = omega arith in rw e (inl (C.core i p (omega arith)))
  ];
  middle = λ i j k p q r s. elim (le_or_lt k hi) [
    | inl t ↦ C.middle i j k p q r t
    | inr t ↦ let e : k ≡ suc hi = omega arith in rw e (inr (C.core j (omega arith) (omega arith)))
  ];
}

peels_chain : (n : ℕ) (b : Board) (inner : Row) (lo : ℕ) → peels b.rows inner lo n ≡ true → Chain b inner lo (lo + n)
unfolding peels
peels_chain zero b inner lo e = let f : lo + 0 ≡ lo = omega arith in rw f (one_row b inner lo (holds b lo inner e))
peels_chain (suc n) b inner lo e =
    let top = row b.rows lo in let bottom = row b.rows (lo + suc n) in
    elim (bool (contains? bottom top)) [
      | inl h ↦
          let k = and_true (contains? top inner) (peels b.rows top (suc lo) n) (rw h at e) in
          let f : suc lo + n ≡ lo + suc n = omega arith in
          more_above b inner lo (lo + suc n) (holds b lo inner k.0) (rw f at (peels_chain n b top (suc lo) k.1))
      | inr h ↦
          let k = and_true (contains? bottom inner) (peels b.rows bottom lo n) (rw h at e) in
          let f : lo + suc n ≡ suc (lo + n) = omega arith in
          let c : Chain b (row b.rows (lo + suc n)) lo (lo + n) = peels_chain n b bottom lo k.1 in
          rw f (more_below b inner lo (lo + n) (rw f at (holds b (lo + suc n) inner k.0)) (rw f at c))
    ]

module _ (b : Board) (inner : Row) (hi : ℕ) (all : height b ≡ suc hi) (C : Chain b inner 0 hi) where
  chain-nested : Nested b
  chain-nested i j h g = elim (le_or_lt i j) [
    | inl p ↦ elim (le_or_lt j i) [
      | inl q ↦ let f : i ≡ j = omega arith in rw f (inl (omega arith, omega arith))
      | inr q ↦ C.nest i j (omega arith) q (omega arith)
    ]
    | inr p ↦ elim (C.nest j i (omega arith) p (omega arith)) [
      | inl t ↦ inr t
      | inr t ↦ inl t
    ]
  ]

  chain-regrow : NeverRegrow b
  chain-regrow i j k l h g m n p q = elim (C.middle i j l (omega arith) h (omega arith) (omega arith)) [
    | inl s ↦ omega arith
    | inr s ↦ elim (C.middle i k l (omega arith) (omega arith) m (omega arith)) [
      | inl t ↦ omega arith
      | inr t ↦ omega arith
    ]
  ]

-- ── and back ──
module _ (b : Board) (W : Within b) (N : Nested b) (G : NeverRegrow b) where
  peels-yes : (n : ℕ) (inner : Row) (lo : ℕ) → lo + n < height b
      → ((i : ℕ) → lo ≤ i → i ≤ lo + n → Holds b i inner) → peels b.rows inner lo n ≡ true
  unfolding peels
  peels-yes zero inner lo h g = holds_yes b lo inner (g lo (omega arith) (omega arith))
  peels-yes (suc n) inner lo h g =
      let top = row b.rows lo in let bottom = row b.rows (lo + suc n) in
      elim (bool (contains? bottom top)) [
        | inl e ↦
            let c = holds b (lo + suc n) top e in
            rw e (and_yes (contains? top inner) (peels b.rows top (suc lo) n) (holds_yes b lo inner (g lo (omega arith) (omega arith)))
            (peels-yes n top (suc lo) (omega arith) (λ i p q. (between-contains b W N G lo i (lo + suc n) (omega arith) (omega arith) h).1 c)))
        | inr e ↦
            let c : Contains b lo (lo + suc n) = elim (N lo (lo + suc n) (omega arith) h) [
              | inl t ↦ t
              | inr t ↦ absurd (clash (holds_yes b (lo + suc n) top t) e)
            ] in
            rw e (and_yes (contains? bottom inner) (peels b.rows bottom lo n)
            (holds_yes b (lo + suc n) inner (g (lo + suc n) (omega arith) (omega arith)))
            (peels-yes n bottom lo (omega arith) (λ i p q. (between-contains b W N G lo i (lo + suc n) (omega arith) (omega arith) h).0 c)))
      ]

pub peels_exact : (b : Board) → Within b → (peels b.rows innermost 0 (height b - 1) ≡ true) ↔ (Nested b × NeverRegrow b)
peels_exact b w =
    let s = w.some in let f : height b ≡ suc (0 + (height b - 1)) = omega arith in (
      λ e. let c = peels_chain (height b - 1) b innermost 0 e in (chain-nested b innermost _ f c, chain-regrow b innermost _ f c),
      λ h. peels-yes b w h.0 h.1 (height b - 1) innermost 0 (omega arith)
          (λ i p q. let c = w.cells i (omega arith) in let d = w.fits i (omega arith) in (omega arith, omega arith)),
    )

-- the peeling sees only the rows down to lo + n
pub peels_same : (n : ℕ) (r s : List Row) (inner : Row) (lo : ℕ)
    → ((i : ℕ) → i ≤ lo + n → row r i ≡ row s i) → peels r inner lo n ≡ peels s inner lo n
unfolding peels
peels_same zero r s inner lo h = rw (h lo (omega arith)) refl
peels_same (suc n) r s inner lo h =
    rw (
      h lo (omega arith),
      h (lo + suc n) (omega arith),
      peels_same n r s (row s lo) (suc lo) (λ i k. h i (omega arith)),
      peels_same n r s (row s (lo + suc n)) lo (λ i k. h i (omega arith)),
    ) refl
