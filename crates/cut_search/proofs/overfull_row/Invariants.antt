use Rattle.count.specs.Lists.{rising, first}
use Rattle.cut.specs.declared.Cut.TheVariants.{Row}
use Rattle.cut_search.specs.Found.{overfull_rows}
use Rattle.cut.specs.Cut.{overfull?}
use Rattle.net.specs.View.{pairs_of}
use Rattle.board.specs.View.{board_of}
use Rattle.count.specs.Lists.{rising, first}
use mathlib.Core.List.{map, head?}
use mathlib.Core.Path.{◌≡◌}
use Prim.Native.Nat.{◌-◌, ◌≤◌}
use Rattle.cut_search.proofs.overfull_row.Given as goal

abbrev pub invariant-loop-i : goal.invariant-loop-i
invariant-loop-i l =
    (l.i ≤ l.rows) × (first (overfull? (board_of l.b) (pairs_of l.nets)) (map Row (rising l.i (l.rows - l.i))) ≡ head? (overfull_rows (board_of l.b) (pairs_of l.nets)))

abbrev pub decreases-loop-i : goal.decreases-loop-i
decreases-loop-i l = l.rows - l.i
