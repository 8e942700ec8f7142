use mathlib.Core.Path.{◌≡◌}
use mathlib.Core.List.{flat_map}
use Prim.Native.Nat.{◌*◌}
use lib.ListN.{length}
use Rattle.count.specs.Lists.{up_to}
use Rattle.text.specs.Put.{Put}
use Rattle.board.specs.View.{board_of}
use Rattle.degrees.specs.Drawing.{line_drawn}
use Rattle.degrees.proofs.draw_board.Given as goal

abbrev pub invariant-loop-l : goal.invariant-loop-l
invariant-loop-l l =
    (l.end ≡ 33 * l.l) × (length l.out ≡ length l.initial.out) × Put (flat_map (line_drawn (board_of l.b)) (up_to l.l)) 0 l.initial.out l.end l.out
