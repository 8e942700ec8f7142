-- The tests of the board that a value of the code stands for, read off the value itself.
-- Assumes nothing.
use Rattle.std.specs.Prelude.{◌≡◌, refl, ◌&&◌, ◌-◌, ◌≤◌, leb}
use Rattle.std.proofs.Common.{arith}
use Rattle.board.specs.Board.{Within}
use Rattle.board.specs.declared.Board as code
use Rattle.board.specs.View.{board_of}
use Rattle.board.specs.ViewLaws.{height_of, row_of}
use Rattle.board_convex.specs.Test.{rows_fit, peels, innermost, in_limits, is_convex}
use Rattle.board_convex.proofs.Limits.{in-limits, rows_fit_same}
use Rattle.board_convex.proofs.PeelLaws.{peels_same}

pub limits_of : (b : code.Board) → in_limits (board_of b) ≡ (leb 1 b.count && leb b.count 31) && rows_fit b.rows b.count
unfolding in_limits
limits_of b = rw (height_of b, rows_fit_same (board_of b).rows b.rows b.count (row_of b)) refl

pub count_of : (b : code.Board) → Within (board_of b) → (1 ≤ b.count) × (b.count ≤ 31)
count_of b w = (omega (arith, height_of b, w.some), omega (arith, height_of b, w.few))

pub convex_of : (b : code.Board) → Within (board_of b) → is_convex (board_of b) ≡ peels b.rows innermost 0 (b.count - 1)
unfolding is_convex
convex_of b w =
    let n = count_of b w in
    rw ((in-limits (board_of b)).1 w, height_of b) (peels_same (b.count - 1) (board_of b).rows b.rows innermost 0 (λ i k. row_of b i (omega arith)))
