use Rattle.std.proofs.Common.{◌≡◌, List, Some}
use Rattle.count.specs.Lists.{select}
use Rattle.board.specs.View.{board_of}
use Rattle.net.specs.declared.Pair.{Pair}
use Rattle.net_terminals.specs.Counts.{Counts}
use Rattle.cut.specs.Odd.{odd?}
use Rattle.cut_search.specs.Reading.{lines_from}
use Rattle.pairing_search.specs.View.{odds_of}
use Rattle.pairing_search.proofs.odd_vertices.Given as goal

abbrev pub invariant-loop-line : goal.invariant-loop-line
invariant-loop-line l =
    (ps : List Pair) → Counts ps l.counts → Some l.odds ≡ odds_of (select (odd? (board_of l.b) ps) (lines_from l.line))
