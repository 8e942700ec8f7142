-- The test of convexity is exact: true exactly on the boards within the limits that are convex.
-- Assumes nothing.
use Rattle.std.specs.Prelude.{◌≡◌, refl, true, false, ◌↔◌, ◌-◌}
use Rattle.count.specs.TruthLaws.{and_true, and_yes}
use Rattle.board.specs.Board.{Board, Within, height}
use Rattle.board.specs.Path.{Convex}
use Rattle.board_convex.specs.Test.{peels, innermost, in_limits, is_convex}
use Rattle.board_convex.proofs.Limits.{in-limits}
use Rattle.board_convex.proofs.PeelLaws.{peels_exact}
use Rattle.board_convex.proofs.Lemma1.{lemma_1}

pub is-convex : (b : Board) → (is_convex b ≡ true) ↔ (Within b × Convex b)
unfolding is_convex
is-convex b = (
  λ e.
      let k = and_true (in_limits b) (peels b.rows innermost 0 (height b - 1)) e in
      let w = (in-limits b).0 k.0 in
      (w, (lemma_1 b w).1 ((peels_exact b w).0 k.1)),
  λ h. and_yes (in_limits b) (peels b.rows innermost 0 (height b - 1)) ((in-limits b).1 h.0)
      ((peels_exact b h.0).1 ((lemma_1 b h.0).0 h.1)),
)

pub outside_not_convex : (b : Board) → in_limits b ≡ false → is_convex b ≡ false
unfolding is_convex
outside_not_convex b e = rw e refl
