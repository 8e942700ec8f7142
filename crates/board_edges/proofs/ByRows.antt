-- The edges of a convex board by its rows: for each row twice its width and one more, and the width of the widest besides.
-- Assumes that the board is within the limits and convex.
-- Row i has one vertical edge more than it is wide. Every line is as long as the wider of the rows above and below it; counted from the top, the
-- lines so far are together as long as the rows above the last of them, and the widest row so far besides (`from-top`).
use Rattle.std.specs.Prelude.{◌≡◌, refl, length}
use Rattle.std.proofs.Math.Logic.{inl, inr}
use Prim.Native.Nat.{ℕ, zero, suc, ◌+◌, ◌-◌, ◌*◌, ◌≤◌, ◌<◌, max}
use native.Mathlib.Omega.{arith}
use Rattle.std.proofs.Common.{lt-ltb, le-ltb}
use Rattle.count.specs.TruthLaws.{le_or_lt}
use Rattle.count.specs.Sum.{sum, count, sum_suc, sum_zero}
use Rattle.count.specs.Sums.{sum_tail}
use Rattle.board.specs.Board.{Board, Within, height}
use Rattle.board.specs.Path.{Convex}
use Rattle.board.specs.Degree.{edge?}
use Rattle.board.specs.declared.Direction.{Direction}
use Rattle.board.specs.declared.Direction.TheVariants.{Right, Down}
use Rattle.board_convex.specs.Form.{width}
use Rattle.board_convex.proofs.Needed.{convex-nested}
use Rattle.board_convex.specs.LineEnds.{line_left, line_right}
use Rattle.board_pins.specs.Pins.{frame_sum, widest}
use Rattle.board_pins.proofs.LinePins.{going, down-width, down-none, line-right, right-none}
use Rattle.board_pins.proofs.Widest.{widest_most}
use Rattle.board_pins.proofs.Law.{grows}
use Rattle.board_edges.specs.EdgeCount.{edges_going, edge_count}
use Rattle.board_edges.proofs.Framed.{count_framed}

-- DEFINITION: what row i adds
abbrev pub row_adds : Board → ℕ → ℕ
row_adds b i = 2 * width b i + 1

pub widest_none : (b : Board) → widest b 0 ≡ 0
unfolding widest
widest_none b = refl

pub widest_more : (b : Board) (i : ℕ) → widest b (suc i) ≡ max (widest b i) (width b i)
unfolding widest
widest_more b i = refl

-- ── line by line ──
going_count : (b : Board) (d : Direction) → length (edges_going b d) ≡ sum 32 (going b d)
unfolding edges_going frame_sum count
going_count b d = count_framed (edge? b d)

module _ (b : Board) (W : Within b) (C : Convex b) where
  -- the first line, one between two rows, the last
  first_line : going b Right 0 ≡ width b 0
  unfolding line_left line_right
  first_line = omega (arith, line-right b W C 0 (omega arith), W.cells 0 W.some)

  next-line : (i : ℕ) → suc i < height b → going b Right (suc i) ≡ max (width b i) (width b (suc i))
  unfolding line_left line_right
  next-line i h =
      let p = rw (lt-ltb (suc i) (height b) h) at (line-right b W C (suc i) (omega arith)) in
      let x = W.cells i (omega arith) in let y = W.cells (suc i) h in
      elim (convex-nested b W C i (suc i) (omega arith) h) [ inl t ↦ omega arith | inr t ↦ omega arith ]

  last_line : (i : ℕ) → suc i ≡ height b → going b Right (suc i) ≡ width b i
  unfolding line_left line_right
  last_line i h =
      let p = rw (le-ltb (suc i) (height b) (omega arith)) at (line-right b W C (suc i) (omega arith)) in
      omega (arith, W.cells i (omega arith))

  -- ── from the top down ──
  from-top : (i : ℕ) → i < height b → sum (suc i) (going b Right) ≡ sum i (width b) + widest b (suc i)
  unfolding widest
  from-top zero h = omega (arith, sum_suc 0 (going b Right), sum_zero (going b Right), sum_zero (width b), first_line)
  from-top (suc i) h =
      let t = from-top i (omega arith) in let s = sum_suc (suc i) (going b Right) in let w = sum_suc i (width b) in
      let x = next-line i h in let m = widest_most b (suc i) i (omega arith) in
      elim (le_or_lt (width b (suc i)) (width b i)) [
        | inl g ↦ omega arith
        | inr g ↦ let k = grows b W C i h g in omega arith
      ]

  rights : (i : ℕ) → suc i ≡ height b → sum (suc (height b)) (going b Right) ≡ sum (height b) (width b) + widest b (height b)
  rights i h = rw (← h) (omega (arith, from-top i (omega arith), last_line i h, sum_suc (suc i) (going b Right), sum_suc i (width b)))

  downs : (i : ℕ) → i ≤ height b → sum i (going b Down) ≡ sum i (width b) + i
  downs zero h = omega (arith, sum_zero (going b Down), sum_zero (width b))
  downs (suc i) h = omega (arith, downs i (omega arith), down-width b W i h, sum_suc i (going b Down), sum_suc i (width b))

  adds : (i : ℕ) → sum i (row_adds b) ≡ 2 * sum i (width b) + i
  adds zero = omega (arith, sum_zero (row_adds b), sum_zero (width b))
  adds (suc i) = omega (arith, adds i, sum_suc i (row_adds b), sum_suc i (width b))

  -- THE LAW
  pub edges-by-rows : edge_count b ≡ sum (height b) (row_adds b) + widest b (height b)
  unfolding edge_count
  edges-by-rows =
      let s = W.some in let f = W.few in
      let right = sum_tail (suc (height b)) (31 - height b) (going b Right) (λ l h. right-none b W C l h) in
      let down = sum_tail (height b) (32 - height b) (going b Down) (λ l h. down-none b W l h) in
      let p : (31 - height b) + suc (height b) ≡ 32 = omega arith in
      let q : (32 - height b) + height b ≡ 32 = omega arith in
      let right' : sum 32 (going b Right) ≡ sum (suc (height b)) (going b Right) = rw p at right in
      let down' : sum 32 (going b Down) ≡ sum (height b) (going b Down) = rw q at down in
      omega (
        arith,
        going_count b Right,
        going_count b Down,
        rights (height b - 1) (omega arith),
        downs (height b) (omega arith),
        adds (height b),
      )
