-- On a nested board that never regrows, a row between two others contains the smaller of the two.
-- Assumes that the board is within the limits (only that no row is empty is used).
use Rattle.std.specs.Prelude.{◌≡◌, ℕ, ◌≤◌, ◌<◌, min, max}
use Rattle.std.proofs.Common.{inl, inr, arith}
use Rattle.count.specs.TruthLaws.{le_or_lt}
use Rattle.board.specs.Board.{Board, Within, height}
use Rattle.board_convex.specs.Form.{Contains, Nested, width, NeverRegrow}

module _ (b : Board) (W : Within b) (N : Nested b) (G : NeverRegrow b) where
  strictly-between : (i j k : ℕ) → i < j → j < k → k < height b → (Contains b i k → Contains b j k) × (Contains b k i → Contains b j i)
  strictly-between i j k h1 h2 h3 =
      let ci = W.cells i (omega arith) in let cj = W.cells j (omega arith) in let ck = W.cells k h3 in
      elim (N i j (omega arith) (omega arith)) [
        | inr e ↦ (λ t. (omega arith, omega arith), λ t. (omega arith, omega arith))
        | inl e ↦ elim (N j k (omega arith) h3) [
          | inl f ↦ (λ t. f, λ t. (omega arith, omega arith))
          | inr f ↦ elim (le_or_lt (width b i) (width b j)) [
            | inl g ↦ (λ t. (omega arith, omega arith), λ t. (omega arith, omega arith))
            | inr g ↦ elim (le_or_lt (width b k) (width b j)) [
              | inl o ↦ (λ t. (omega arith, omega arith), λ t. (omega arith, omega arith))
              | inr o ↦ absurd (G i j j k h1 (omega arith) h2 h3 g o)
            ]
          ]
        ]
      ]

  pub between-contains : (i j k : ℕ) → i ≤ j → j ≤ k → k < height b → (Contains b i k → Contains b j k) × (Contains b k i → Contains b j i)
  between-contains i j k h1 h2 h3 = elim (le_or_lt j i) [
    | inl e ↦ let f : j ≡ i = omega arith in rw f (λ t. t, λ t. (omega arith, omega arith))
    | inr e ↦ elim (le_or_lt k j) [
      | inl g ↦ let f : j ≡ k = omega arith in rw f (λ t. (omega arith, omega arith), λ t. t)
      | inr g ↦ strictly-between i j k e g h3
    ]
  ]

  -- a row between two others is no narrower than the narrower of the two
  pub between-width : (i j k : ℕ) → i < j → j < k → k < height b → min (width b i) (width b k) ≤ width b j
  between-width i j k h1 h2 h3 = elim (le_or_lt (width b i) (width b j)) [
    | inl g ↦ omega arith
    | inr g ↦ elim (le_or_lt (width b k) (width b j)) [
      | inl o ↦ omega arith
      | inr o ↦ absurd (G i j j k h1 (omega arith) h2 h3 g o)
    ]
  ]

  -- the same with rows i and j in either order
  pub toward-contains : (i j k : ℕ) → i < height b → j < height b → Contains b i j → min i j ≤ k → k ≤ max i j → Contains b k j
  toward-contains i j k h g t p q = elim (le_or_lt i j) [
    | inl r ↦ (between-contains i k j (omega arith) (omega arith) g).0 t
    | inr r ↦ (between-contains j k i (omega arith) (omega arith) h).1 t
  ]
