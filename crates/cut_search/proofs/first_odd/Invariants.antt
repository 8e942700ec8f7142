use Rattle.cut_search.specs.Reading.{lines_from}
use Rattle.net_terminals.specs.Counts.{Counts}
use Rattle.cut.specs.Odd.{odd?, odd_vertices}
use Rattle.cut.specs.Extent.{lines_of, columns_of}
use Rattle.net.specs.declared.Pair.{Pair}
use Rattle.board.specs.View.{board_of}
use Rattle.board.specs.Board.{at}
use Rattle.count.specs.Lists.{rising, first}
use mathlib.Core.List.{List, map, ◌++◌, head?}
use Rattle.std.specs.Prelude.{None}
use mathlib.Core.Path.{◌≡◌}
use Prim.Native.Nat.{◌+◌, ◌-◌, ◌≤◌, ◌<◌}
use Rattle.cut_search.proofs.first_odd.Given as goal

abbrev pub invariant-loop-column : goal.invariant-loop-column
invariant-loop-column l =
    (l.line < 32) × (l.column ≤ l.columns) × (l.columns ≡ columns_of (board_of l.b) l.line) × (l.found ≡ None)
    × ((ps : List Pair) → Counts ps l.counts → first (odd? (board_of l.b) ps) (map (at l.line) (rising l.column (32 - l.column)) ++ lines_from (l.line + 1))
    ≡ head? (odd_vertices (board_of l.b) ps))

abbrev pub decreases-loop-column : goal.decreases-loop-column
decreases-loop-column l = l.columns - l.column

abbrev pub invariant-lines : goal.invariant-lines
invariant-lines l =
    (l.line ≤ l.lines) × (l.lines ≡ lines_of (board_of l.b)) × (l.found ≡ None) × ((ps : List Pair) → Counts ps l.counts
    → first (odd? (board_of l.b) ps) (lines_from l.line) ≡ head? (odd_vertices (board_of l.b) ps))

abbrev pub decreases-lines : goal.decreases-lines
decreases-lines l = l.lines - l.line
