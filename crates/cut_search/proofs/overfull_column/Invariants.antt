use Rattle.cut.specs.declared.Cut.TheVariants.{Column}
use Rattle.cut_search.specs.Found.{overfull_columns}
use Rattle.cut.specs.Cut.{overfull?}
use Rattle.net.specs.View.{pairs_of}
use Rattle.board.specs.View.{board_of}
use Rattle.count.specs.Lists.{rising, first}
use mathlib.Core.List.{map, head?}
use mathlib.Core.Path.{◌≡◌}
use Prim.Native.Nat.{◌-◌, ◌≤◌}
use Rattle.cut_search.proofs.overfull_column.Given as goal

abbrev pub invariant-loop-j : goal.invariant-loop-j
invariant-loop-j l =
    (l.j ≤ l.end) × (l.end ≤ 31) × (first (overfull? (board_of l.b) (pairs_of l.nets)) (map Column (rising l.j (31 - l.j)))
    ≡ head? (overfull_columns (board_of l.b) (pairs_of l.nets)))

abbrev pub decreases-loop-j : goal.decreases-loop-j
decreases-loop-j l = l.end - l.j
