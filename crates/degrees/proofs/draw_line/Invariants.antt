use mathlib.Core.Path.{◌≡◌}
use lib.ListN.{length}
use lib.Seq.{paste}
use Rattle.board.specs.View.{board_of}
use Rattle.degrees.specs.Drawing.{line_drawn}
use Rattle.degrees.proofs.draw_line.Given as goal

abbrev pub invariant-loop-c : goal.invariant-loop-c
invariant-loop-c l = (length l.out ≡ length l.initial.out) × (l.out ≡ paste l.initial.out l.at (line_drawn (board_of l.b) l.l) l.c)
