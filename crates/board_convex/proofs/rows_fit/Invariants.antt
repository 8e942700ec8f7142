use mathlib.Core.Path.{◌≡◌}
use Rattle.board_convex.specs.Test.{rows_fit}
use Rattle.board_convex.proofs.rows_fit.Given as goal

abbrev pub invariant-loop-row : goal.invariant-loop-row
invariant-loop-row l = l.ok ≡ rows_fit l.fn.rows l.row-index
