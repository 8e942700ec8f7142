use Rattle.std.proofs.Common.{◌≡◌, List, Some}
use Rattle.board.specs.View.{board_of}
use Rattle.board.specs.declared.Vertex.{Vertex}
use Rattle.net.specs.declared.Pair.{Pair}
use Rattle.net_terminals.specs.Counts.{Counts}
use Rattle.cut.specs.Odd.{odd?}
use Rattle.pairing_search.specs.View.{odds_of}
use Rattle.pairing_search.specs.Collect.{line_from}
use Rattle.pairing_search.proofs.with_line.Given as goal

abbrev pub invariant-loop-column : goal.invariant-loop-column
invariant-loop-column l =
    (ps : List Pair) (vs : List Vertex) → Counts ps l.counts → Some l.initial.odds ≡ odds_of vs
    → Some l.odds ≡ odds_of (line_from (odd? (board_of l.b) ps) l.line l.column vs)
