-- Lemma 1 of source document 004, as document 01 reads it: a board is convex, by paths with at most one bend, exactly when of any two
-- rows one contains the other and widths never shrink and then grow again.
-- Assumes that the board is within the limits.
use Rattle.std.specs.Prelude.{◌↔◌}
use Rattle.board.specs.Board.{Board, Within}
use Rattle.board.specs.Path.{Convex}
use Rattle.board_convex.specs.Form.{Nested, NeverRegrow}
use Rattle.board_convex.proofs.Needed.{convex-nested, convex-regrow}
use Rattle.board_convex.proofs.Enough.{form-convex}

pub lemma_1 : (b : Board) → Within b → Convex b ↔ (Nested b × NeverRegrow b)
lemma_1 b W = (λ C. (convex-nested b W C, convex-regrow b W C), λ f. form-convex b W f.0 f.1)
