-- A convex board is nested and never regrows.
-- Assumes that the board is within the limits (only that no row is empty is used).
use Rattle.std.specs.Prelude.{◌≡◌, ◌⊎◌, ℕ, suc, ◌≤◌, ◌<◌}
use Rattle.std.proofs.Common.{inl, inr, arith}
use Rattle.count.specs.TruthLaws.{le_or_lt}
use Rattle.board.specs.Board.{Board, Within, height, left, right, at, IsVertex}
use Rattle.board.specs.Path.{Convex}
use Rattle.board.specs.declared.Vertex.{Vertex}
use Rattle.board_convex.specs.Form.{Contains, Nested, width, NeverRegrow}
use Rattle.board_convex.proofs.Places.{HasColumn, vertex_on_top, vertex_at_bottom}
use Rattle.board_convex.proofs.OneBend.{Through, one_bend}

module _ (b : Board) (W : Within b) (C : Convex b) where
  joined : (u v : Vertex) → IsVertex b u → IsVertex b v → Through b u v u.column ⊎ Through b u v v.column
  unfolding Convex
  joined u v p q = let c = C u v p q in one_bend b u v c.0 c.1 c.2

  -- from column c on top of row i to column d at the bottom of row j: one of the two columns is in all the rows between
  cross : (i j c d : ℕ) → i ≤ j → HasColumn b i c → HasColumn b j d
      → ((k : ℕ) → i ≤ k → k ≤ j → HasColumn b k c) ⊎ ((k : ℕ) → i ≤ k → k ≤ j → HasColumn b k d)
  cross i j c d h p q = elim (joined (at i c) (at (suc j) d)
      (vertex_on_top b i c (W.cells i p.row) p) (vertex_at_bottom b j d (W.cells j q.row) q)) [
        | inl t ↦ inl (λ k m n. t k m (omega arith))
        | inr t ↦ inr (λ k m n. t k m (omega arith))
      ]

  left_end : (i : ℕ) → i < height b → HasColumn b i (left b i)
  left_end i h = let c = W.cells i h in record { row = h; from = omega arith; to = omega arith }

  right_end : (i : ℕ) → i < height b → HasColumn b i (right b i)
  right_end i h = let c = W.cells i h in record { row = h; from = omega arith; to = omega arith }

  -- ── nested ──
  -- of two rows neither has both its ends further left
  never-across : (i j : ℕ) → i < j → j < height b
      → (left b i < left b j → right b i < right b j → ⊥) × (left b j < left b i → right b j < right b i → ⊥)
  never-across i j h g = (
    λ p q. elim (cross i j (left b i) (right b j) (omega arith) (left_end i (omega arith)) (right_end j g)) [
      | inl t ↦ omega (arith, (t j (omega arith) (omega arith)).from)
      | inr t ↦ omega (arith, (t i (omega arith) (omega arith)).to)
    ],
    λ p q. elim (cross i j (right b i) (left b j) (omega arith) (right_end i (omega arith)) (left_end j g)) [
      | inl t ↦ omega (arith, (t j (omega arith) (omega arith)).to)
      | inr t ↦ omega (arith, (t i (omega arith) (omega arith)).from)
    ],
  )

  nested-down : (i j : ℕ) → i < j → j < height b → Contains b i j ⊎ Contains b j i
  nested-down i j h g = let n = never-across i j h g in elim (le_or_lt (left b i) (left b j)) [
    | inl p ↦ elim (le_or_lt (right b j) (right b i)) [
      | inl q ↦ inl (p, q)
      | inr q ↦ elim (le_or_lt (left b j) (left b i)) [
        | inl r ↦ inr (r, omega arith)
        | inr r ↦ absurd (n.0 r q)
      ]
    ]
    | inr p ↦ elim (le_or_lt (right b i) (right b j)) [
      | inl q ↦ inr (omega arith, q)
      | inr q ↦ absurd (n.1 p q)
    ]
  ]

  pub convex-nested : Nested b
  convex-nested i j h g = elim (le_or_lt i j) [
    | inl p ↦ elim (le_or_lt j i) [
      | inl q ↦ let e : i ≡ j = omega arith in rw e (inl (omega arith, omega arith))
      | inr q ↦ nested-down i j q g
    ]
    | inr p ↦ elim (nested-down j i p h) [
      | inl t ↦ inr t
      | inr t ↦ inl t
    ]
  ]

  -- ── widths ──
  -- a column that rows i and k share is in every row between
  shared : (i j k c : ℕ) → i ≤ j → j ≤ k → HasColumn b i c → HasColumn b k c → HasColumn b j c
  shared i j k c h g p q = elim (cross i k c c (omega arith) p q) [
    | inl t ↦ t j h g
    | inr t ↦ t j h g
  ]

  waist : (i j k : ℕ) → i < j → j < k → k < height b → width b j < width b i → width b j < width b k → ⊥
  waist i j k h g m p q =
      let ci = W.cells i (omega arith) in let ck = W.cells k m in
      elim (convex-nested i k (omega arith) m) [
        | inl t ↦
            let x = shared i j k (left b k) (omega arith) (omega arith) (record { row = omega arith; from = omega arith; to = omega arith })
            (left_end k m) in
            let y = shared i j k (right b k) (omega arith) (omega arith) (record { row = omega arith; from = omega arith; to = omega arith })
            (right_end k m) in
            omega (arith, x.from, y.to)
        | inr t ↦
            let x = shared i j k (left b i) (omega arith) (omega arith) (left_end i (omega arith))
            (record { row = m; from = omega arith; to = omega arith }) in
            let y = shared i j k (right b i) (omega arith) (omega arith) (right_end i (omega arith))
            (record { row = m; from = omega arith; to = omega arith }) in
            omega (arith, x.from, y.to)
      ]

  pub convex-regrow : NeverRegrow b
  convex-regrow i j k l h g m n p q = elim (le_or_lt (width b i) (width b k)) [
    | inl r ↦ waist i j l h (omega arith) n p (omega arith)
    | inr r ↦ waist i k l (omega arith) m n r q
  ]
