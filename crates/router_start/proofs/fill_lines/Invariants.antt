use Rattle.board.specs.View.{board_of}
use Rattle.router_start.specs.Lines.{Lined}
use Rattle.router_start.specs.LineLaws.{board_is}
use Rattle.router_start.proofs.fill_lines.Given as goal

abbrev pub invariant-loop-l : goal.invariant-loop-l
invariant-loop-l l = Lined (board_of (board_is l.rows l.n)) l.l l.initial.lines.first l.initial.lines.last l.lines.first l.lines.last
