-- After the turn of a line the odd vertices from that line on are collected.
use Rattle.std.proofs.Common.{◌≡◌, ◌+◌, ◌-◌, ◌∙◌, arith}
use Rattle.board.specs.View.{board_of}
use Rattle.net.specs.View.{pairs_of}
use Rattle.pairing_search.specs.Collect.{lines-first, lines-turn, lines_last, lines_many}
use Rattle.pairing_search.proofs.odd_vertices.Goals as goal

pub loop-line-init : goal.loop-line-init
loop-line-init c ps C = rw c.no_odds-odds.ensures (lines-first (board_of c.args.b) ps c.lines_of-line.result c.lines_of-line.ensures)

pub returns-in_err-odds : goal.returns-in_err-odds
returns-in_err-odds c =
    let b = board_of c.args.b in let ps = pairs_of c.args.nets in let C = c.count_terminals-counts.ensures in
    let l = c.loop-line.line - 1 in let k : c.loop-line.line ≡ l + 1 = omega arith in
    c.from_residual.ensures
    ∙ lines_many b ps l (omega arith)
    (lines-turn b ps l (omega arith) _ _ (λ vs D. c.in_err-odds.ensures ps vs C D) (rw k at (c.loop-line.invariant ps C)))

pub loop-line-preserved : goal.loop-line-preserved
loop-line-preserved c ps C =
    let l = c.loop-line.line - 1 in let k : c.loop-line.line ≡ l + 1 = omega arith in
    lines-turn (board_of c.args.b) ps l (omega arith) _ _ (λ vs D. c.in_ok-odds.ensures ps vs C D) (rw k at (c.loop-line.invariant ps C))

pub returns : goal.returns
returns c =
    let ps = pairs_of c.args.nets in let z : c.loop-line.line ≡ 0 = omega arith in
    lines_last (board_of c.args.b) ps _ (rw z at (c.loop-line.invariant ps c.count_terminals-counts.ensures))
