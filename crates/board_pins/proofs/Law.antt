-- The pins of a convex board: twice its width and height together, and 4 more.
-- Assumes that the board is within the limits and convex.
-- Every line is as long as the wider of the rows above and below it. Counted from the top, the pins so far and the width of the row below
-- together grow by 2 with each line, and by 2 more for each column by which that row is wider than all above it (`from-top`).
use Rattle.std.specs.Prelude.{◌≡◌}
use Rattle.std.proofs.Math.Logic.{inl, inr}
use Prim.Native.Nat.{ℕ, zero, suc, ◌+◌, ◌-◌, ◌*◌, ◌≤◌, ◌<◌, max}
use native.Mathlib.Omega.{arith}
use Rattle.std.proofs.Common.{lt-ltb, le-ltb}
use Rattle.count.specs.TruthLaws.{le_or_lt}
use Rattle.count.specs.Sum.{sum, sum_suc, sum_zero}
use Rattle.count.specs.Sums.{sum_tail}
use Rattle.board.specs.Board.{Board, Within, height}
use Rattle.board.specs.Path.{Convex}
use Rattle.board_convex.specs.Form.{width}
use Rattle.board_convex.proofs.Needed.{convex-nested, convex-regrow}
use Rattle.board_convex.specs.LineEnds.{line_left, line_right}
use Rattle.board_pins.specs.Pins.{frame_sum, all_pins, widest, board_width}
use Rattle.board_pins.proofs.LinePins.{line_pins, down-width, down-none, up-width, up_none, line-pins, no_pins}
use Rattle.board_pins.proofs.Widest.{widest_le}

module _ (b : Board) (W : Within b) (C : Convex b) where
  -- ── the first line, one between two rows, the last ──
  first_line : line_pins b 0 ≡ width b 0 + 3
  unfolding line_left line_right
  first_line = omega (arith, line-pins b W C 0 (omega arith), up_none b W, down-width b W 0 W.some, W.cells 0 W.some)

  next-line : (i : ℕ) → suc i < height b → line_pins b (suc i) + width b i + width b (suc i) ≡ 2 * max (width b i) (width b (suc i)) + 2
  unfolding line_left line_right
  next-line i h =
      let p = rw (lt-ltb (suc i) (height b) h) at (line-pins b W C (suc i) (omega arith)) in
      let x = W.cells i (omega arith) in let y = W.cells (suc i) h in
      let u = up-width b W i (omega arith) in let d = down-width b W (suc i) h in
      elim (convex-nested b W C i (suc i) (omega arith) h) [ inl t ↦ omega arith | inr t ↦ omega arith ]

  last_line : (i : ℕ) → suc i ≡ height b → line_pins b (suc i) ≡ width b i + 3
  unfolding line_left line_right
  last_line i h =
      let p = rw (le-ltb (suc i) (height b) (omega arith)) at (line-pins b W C (suc i) (omega arith)) in
      omega (arith, W.cells i (omega arith), up-width b W i (omega arith), down-none b W (suc i) (omega arith))

  -- ── from the top down ──
  -- where a row is wider than the one above it, that one is as wide as any so far
  pub grows : (i : ℕ) → suc i < height b → width b i < width b (suc i) → widest b (suc i) ≤ width b i
  grows i h g = widest_le b (suc i) (width b i) (λ j k. elim (le_or_lt (width b j) (width b i)) [
    | inl p ↦ p
    | inr p ↦ elim (le_or_lt i j) [
      | inl q ↦ let e : j ≡ i = omega arith in rw e (omega arith)
      | inr q ↦ absurd (convex-regrow b W C j i i (suc i) q (omega arith) (omega arith) h p g)
    ]
  ])

  from-top : (i : ℕ) → i < height b → sum (suc i) (line_pins b) + width b i ≡ 2 * (widest b (suc i) + i) + 3
  unfolding widest
  from-top zero h = omega (arith, sum_suc 0 (line_pins b), sum_zero (line_pins b), first_line)
  from-top (suc i) h =
      let t = from-top i (omega arith) in let s = sum_suc (suc i) (line_pins b) in let x = next-line i h in
      elim (le_or_lt (width b (suc i)) (width b i)) [
        | inl g ↦ omega arith
        | inr g ↦ let k = grows i h g in omega arith
      ]

  all_lines : (i : ℕ) → suc i ≡ height b → sum (suc (height b)) (line_pins b) ≡ 2 * (widest b (height b) + height b) + 4
  all_lines i h = rw (← h) (omega (arith, from-top i (omega arith), last_line i h, sum_suc (suc i) (line_pins b)))

  -- ── the board ──
  -- the sum of 4 - degree over all vertices is 2 (width + height) + 4
  pub pin-count : all_pins b ≡ 2 * (board_width b + height b) + 4
  unfolding all_pins frame_sum board_width line_pins
  pin-count =
      let s = W.some in let f = W.few in
      let t = sum_tail (suc (height b)) (31 - height b) (line_pins b) (λ l h. no_pins b W C l h) in
      let e : (31 - height b) + suc (height b) ≡ 32 = omega arith in
      let all : sum 32 (line_pins b) ≡ sum (suc (height b)) (line_pins b) = rw e at t in
      omega (arith, all_lines (height b - 1) (omega arith))
