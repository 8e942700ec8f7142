-- After the turn of a column the odd vertices from that column on stand in front.
use Rattle.std.proofs.Common.{◌≡◌, ℕ, ◌+◌, ◌-◌, ◌*◌, ◌<◌, sym, ◌∙◌, Bool, List, get_or, arith}
use Rattle.board.specs.Board.{Board, at}
use Rattle.board.specs.View.{board_of}
use Rattle.net.specs.declared.Pair.{Pair}
use Rattle.net_terminals.specs.Counts.{Counts}
use Rattle.cut.specs.Odd.{odd?}
use Rattle.cut_search.specs.Found.{odd_with}
use Rattle.cut_search.specs.Laws.{odd_counted}
use Rattle.pairing_search.specs.Collect.{line_first, line-odd, line-even, line-many}
use Rattle.pairing_search.proofs.with_line.Goals as goal

-- the test of the vertex at column m, by its place in the counts
tested : (b : Board) (ps : List Pair) (counts : List ℕ) → Counts ps counts → (l m : ℕ) → l < 32 → m < 32 → (i j : ℕ) → i ≡ l → j ≡ m
    → (t : Bool) → t ≡ odd_with b (get_or counts (i * 32 + j) 0) (at l m) → odd? b ps (at l m) ≡ t
tested b ps counts C l m h k i j p q t e = sym {b = odd? b ps (at l m)} (e ∙ rw (p, q) (odd_counted b ps counts C l m h k))

pub loop-column-init : goal.loop-column-init
loop-column-init c ps vs C D = line_first (board_of c.args.b) ps c.args.line vs c.columns_of-column.result c.columns_of-column.ensures _ D

pub returns-in_err-odds : goal.returns-in_err-odds
returns-in_err-odds c ps vs C D =
    let b = board_of c.args.b in let l = c.args.line in let m = c.loop-column.column - 1 in
    let k : c.loop-column.column ≡ m + 1 = omega arith in
    let odd =
    tested b ps c.args.counts C l m (omega arith) (omega arith) _ _ c.from.ensures c.from-in-loop-column.ensures _ c.is_odd.ensures
    ∙ c.if-is_odd.true in
    let more = line-odd b ps l vs m (omega arith) odd _ (rw k at (c.loop-column.invariant ps vs C D)) in
    c.from_residual.ensures ∙ line-many b ps l vs m (omega arith) (c.in_err-odds.ensures ∙ more)

pub loop-column-preserved-then-is_odd : goal.loop-column-preserved-then-is_odd
loop-column-preserved-then-is_odd c ps vs C D =
    let b = board_of c.args.b in let l = c.args.line in let m = c.loop-column.column - 1 in
    let k : c.loop-column.column ≡ m + 1 = omega arith in
    let odd =
    tested b ps c.args.counts C l m (omega arith) (omega arith) _ _ c.from.ensures c.from-in-loop-column.ensures _ c.is_odd.ensures
    ∙ c.if-is_odd.true in
    c.in_ok-odds.ensures ∙ line-odd b ps l vs m (omega arith) odd _ (rw k at (c.loop-column.invariant ps vs C D))

pub loop-column-preserved : goal.loop-column-preserved
loop-column-preserved c ps vs C D =
    let b = board_of c.args.b in let l = c.args.line in let m = c.loop-column.column - 1 in
    let k : c.loop-column.column ≡ m + 1 = omega arith in
    let even =
    tested b ps c.args.counts C l m (omega arith) (omega arith) _ _ c.from.ensures c.from-in-loop-column.ensures _ c.is_odd.ensures
    ∙ c.if-is_odd.false in
    line-even b ps l vs m (omega arith) even _ (rw k at (c.loop-column.invariant ps vs C D))

pub returns : goal.returns
returns c ps vs C D =
    let z : c.loop-column.column ≡ 0 = omega arith in rw z at (c.loop-column.invariant ps vs C D)
