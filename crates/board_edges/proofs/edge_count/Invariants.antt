use mathlib.Core.Path.{◌≡◌}
use Prim.Native.Nat.{◌-◌, ◌*◌, ◌≤◌, ◌<◌}
use Rattle.count.specs.Sum.{sum}
use Rattle.board.specs.View.{board_of}
use Rattle.board_pins.specs.Pins as pins
use Rattle.board_edges.proofs.ByRows.{row_adds}
use Rattle.board_edges.proofs.edge_count.Given as goal

abbrev pub invariant-loop-i : goal.invariant-loop-i
invariant-loop-i l =
    (l.i ≤ l.rows) × (l.edges ≤ 512 * l.i) × (l.edges ≡ sum l.i (row_adds (board_of l.b))) × (l.widest ≡ pins.widest (board_of l.b) l.i)
    × (l.widest < 256)

abbrev pub decreases-loop-i : goal.decreases-loop-i
decreases-loop-i l = l.rows - l.i
