-- Rows of cells of which any two contain one another, one way or the other, and none is narrower than both a row above and a row below it:
-- their lines are a shape.
-- Line l is the wider of the rows above and below it. Assumes nothing else of the rows.
use Rattle.std.specs.Prelude.{◌≡◌, true, ◌&&◌, ◌⊎◌, ℕ, suc, pred, ◌-◌, ◌≤◌, ◌<◌, min, max, leb}
use Rattle.std.proofs.Common.{ap, inl, inr, arith, leb-true, le-leb}
use Rattle.count.specs.TruthLaws.{bool_eq, and_true, and_yes}
use Rattle.count.specs.Bits.{eq_case}
use Rattle.corner.specs.Shape.{last, Shape, present, Shaped}
use Rattle.corner.proofs.Presence.{last_suc, present_yes, present_true}

-- rows 0 .. m, row i being the cells from column L i to column R i
pub record Stack (m : ℕ) (L R : ℕ → ℕ) : Type 0 where
  pub few : m < last
  pub cells : (i : ℕ) → i ≤ m → L i < R i
  pub fits : (i : ℕ) → i ≤ m → R i ≤ last
  pub nested : (i j : ℕ) → i ≤ m → j ≤ m → ((L i ≤ L j) × (R j ≤ R i)) ⊎ ((L j ≤ L i) × (R i ≤ R j))
  -- widths never shrink and then grow again
  pub waist : (i j k : ℕ) → i < j → j < k → k ≤ m → min (R i - L i) (R k - L k) ≤ R j - L j

-- line l: the wider of the rows above and below it
abbrev pub lines : (m : ℕ) (L R : ℕ → ℕ) → Shape
lines m L R = record { top = 0; bottom = suc m; a = λ l. min (L (pred l)) (L (min l m)); b = λ l. max (R (pred l)) (R (min l m)) }

module _ (m : ℕ) (L R : ℕ → ℕ) (K : Stack m L R) where
  -- a row between two others contains what they share
  mid-in : (i j k : ℕ) → i < j → j < k → k ≤ m → (L j ≤ max (L i) (L k)) × (min (R i) (R k) ≤ R j)
  mid-in i j k h1 h2 h3 =
      let w = K.waist i j k h1 h2 h3 in let ci = K.cells i (omega arith) in let cj = K.cells j (omega arith) in let ck = K.cells k h3 in
      elim (K.nested i j (omega arith) (omega arith)) [
        | inl e ↦ elim (K.nested j k (omega arith) h3) [
          | inl f ↦ (omega arith, omega arith)
          | inr f ↦ joint i j k e f w ci cj ck (K.nested i k (omega arith) h3)
        ]
        | inr e ↦ (omega arith, omega arith)
      ]
    where
      joint : (i j k : ℕ) → (L i ≤ L j) × (R j ≤ R i) → (L k ≤ L j) × (R j ≤ R k) → min (R i - L i) (R k - L k) ≤ R j - L j → L i < R i → L j < R j
          → L k < R k
          → ((L i ≤ L k) × (R k ≤ R i)) ⊎ ((L k ≤ L i) × (R i ≤ R k)) → (L j ≤ max (L i) (L k)) × (min (R i) (R k) ≤ R j)
      joint i j k e f w ci cj ck (inl n) = (omega arith, omega arith)
      joint i j k e f w ci cj ck (inr n) = (omega arith, omega arith)

  mid : (i j k : ℕ) → i ≤ j → j ≤ k → k ≤ m → (L j ≤ max (L i) (L k)) × (min (R i) (R k) ≤ R j)
  mid i j k h1 h2 h3 = elim (eq_case i j) [
    | inl e ↦ rw e.2 (omega arith, omega arith)
    | inr e ↦ elim (eq_case j k) [
      | inl f ↦ rw f.2 (omega arith, omega arith)
      | inr f ↦ mid-in i j k (omega (arith, e.2)) (omega (arith, f.2)) h3
    ]
  ]

  -- a line is one of its two rows, the wider one
  pub line_row : (l : ℕ) → l ≤ suc m
      → (r : ℕ) × (r ≤ m) × (pred l ≤ r) × (r ≤ l) × (min (L (pred l)) (L (min l m)) ≡ L r) × (max (R (pred l)) (R (min l m)) ≡ R r)
  line_row l h = elim (K.nested (pred l) (min l m) (omega arith) (omega arith)) [
    | inl e ↦ (pred l, omega arith, omega arith, omega arith, omega arith, omega arith)
    | inr e ↦ (min l m, omega arith, omega arith, omega arith, omega arith, omega arith)
  ]

  pub lines-shaped : Shaped (lines m L R)
  lines-shaped = record {
    order = omega arith;
    full = λ l h. let r = line_row l h.1 in omega (arith, r.4, r.5, K.cells r.0 r.1);
    low = omega (arith, K.few, last_suc);
    thin = λ l h. let r = line_row l h.1 in omega (arith, r.5, K.fits r.0 r.1, last_suc);
    between_left = λ i j k h1 h2 h3 h4. (n1 i j k h2 h3 h4).0;
    between_right = λ i j k h1 h2 h3 h4. (n1 i j k h2 h3 h4).1;
    nested = λ i j h k. let r = line_row i h.1 in let s = line_row j k.1 in
        rw (r.4, r.5, s.4, s.5) (K.nested r.0 s.0 r.1 s.1);
  }
    where
      n1 : (i j k : ℕ) → i < j → j < k → k ≤ suc m
          → (min (L (pred j)) (L (min j m)) ≤ max (min (L (pred i)) (L (min i m))) (min (L (pred k)) (L (min k m))))
          × (min (max (R (pred i)) (R (min i m))) (max (R (pred k)) (R (min k m))) ≤ max (R (pred j)) (R (min j m)))
      n1 i j k h1 h2 h3 =
          let r = line_row i (omega arith) in let s = line_row k h3 in
          let q = mid r.0 (pred j) s.0 (omega (arith, r.3)) (omega (arith, s.2)) s.1 in
          rw (r.4, r.5, s.4, s.5) (omega (arith, q.0), omega (arith, q.1))

  -- the vertical edges of row i are its own columns
  pub vertical : (i c : ℕ) → i ≤ m → (present (lines m L R) i c && present (lines m L R) (suc i) c) ≡ (leb (L i) c && leb c (R i))
  vertical i c h = bool_eq _ _
      (λ e.
      let k = and_true (present (lines m L R) i c) (present (lines m L R) (suc i) c) e in
      let p = present_true (lines m L R) i c k.0 in let q = present_true (lines m L R) (suc i) c k.1 in
      let r = line_row i (omega arith) in let s = line_row (suc i) (omega arith) in
      let t = mid r.0 i s.0 r.3 (omega (arith, s.2)) s.1 in
      and_yes _ _ (le-leb (L i) c (omega (arith, t.0, p.from, q.from, r.4, s.4)))
      (le-leb c (R i) (omega (arith, t.1, p.to, q.to, r.5, s.5))))
      (λ e.
      let k = and_true (leb (L i) c) (leb c (R i)) e in
      let p = leb-true (L i) c k.0 in let q = leb-true c (R i) k.1 in
      let f : min i m ≡ i = omega arith in
      let f1 = ap L f in let f2 = ap R f in
      and_yes _ _
      (present_yes (lines m L R) i c (record { low = omega arith; high = omega arith; from = omega arith; to = omega arith }))
      (present_yes (lines m L R) (suc i) c (record { low = omega arith; high = omega arith; from = omega arith; to = omega arith })))

  -- the horizontal edges of line l are the sides of the cells of the row above or below
  pub horizontal : (l c : ℕ) → present (lines m L R) l c ≡ true → present (lines m L R) l (suc c) ≡ true
      → (r : ℕ) × (r ≤ m) × (pred l ≤ r) × (r ≤ l) × (L r ≤ c) × (c < R r)
  horizontal l c e f =
      let p = present_true (lines m L R) l c e in let q = present_true (lines m L R) l (suc c) f in
      let r = line_row l p.high in
      (r.0, r.1, r.2, r.3, omega (arith, r.4, p.from), omega (arith, r.5, q.to))

  pub horizontal-back : (r l c : ℕ) → r ≤ m → (l ≡ r) ⊎ (l ≡ suc r) → L r ≤ c → c < R r
      → (present (lines m L R) l c ≡ true) × (present (lines m L R) l (suc c) ≡ true)
  horizontal-back r l c h (inl e) p q = rw e (
      let f : min r m ≡ r = omega arith in let f1 = ap L f in let f2 = ap R f in (
        present_yes (lines m L R) r c (record { low = omega arith; high = omega arith; from = omega arith; to = omega arith }),
        present_yes (lines m L R) r (suc c) (record { low = omega arith; high = omega arith; from = omega arith; to = omega arith }),
      ))
  horizontal-back r l c h (inr e) p q = rw e (
    present_yes (lines m L R) (suc r) c (record { low = omega arith; high = omega arith; from = omega arith; to = omega arith }),
    present_yes (lines m L R) (suc r) (suc c) (record { low = omega arith; high = omega arith; from = omega arith; to = omega arith }),
  )
