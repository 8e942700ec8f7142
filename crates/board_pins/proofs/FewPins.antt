-- A convex board has at most 128 pins, so at most 128 of its vertices have one.
-- Assumes that the board is within the limits and convex.
use Rattle.std.specs.Prelude.{ltb}
use Prim.Native.Nat.{ℕ, zero, suc, ◌≤◌}
use native.Mathlib.Omega.{arith}
use Rattle.count.specs.Truth.{one}
use Rattle.count.specs.TruthLaws.{one_le}
use Rattle.board.specs.Board.{Board, Within, height}
use Rattle.board.specs.Path.{Convex}
use Rattle.board.specs.Degree.{pins}
use Rattle.board_pins.specs.Pins.{all_pins, pinned_vertices, board_width}
use Rattle.board_pins.proofs.Frame.{frame_le}
use Rattle.board_pins.proofs.Law.{pin-count}
use Rattle.board_pins.proofs.Widest.{widest_le}

module _ (b : Board) (W : Within b) (C : Convex b) where
  pub pins-few : all_pins b ≤ 128
  unfolding board_width
  pins-few = omega (arith, pin-count b W C, W.few, widest_le b (height b) 31 (λ i h. omega (arith, W.fits i h)))

  -- so at most 128 vertices have a pin
  pub pinned-few : pinned_vertices b ≤ 128
  unfolding pinned_vertices all_pins
  pinned-few = omega (arith, pins-few, frame_le (λ v. one (ltb 0 (pins b v))) (pins b) (λ v. one_of (pins b v)))
    where
      one_of : (n : ℕ) → one (ltb 0 n) ≤ n
      one_of zero = omega arith
      one_of (suc n) = omega (arith, one_le (ltb 0 (suc n)))
