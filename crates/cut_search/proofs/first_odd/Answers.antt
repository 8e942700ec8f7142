-- The loops go through the reading order and pass over the lines and columns that have no vertex; whatever pairs the counts are of, what is still
-- to be seen has the same first odd vertex.
use Rattle.cut_search.specs.Reading.{lines_from, lines_all, lines_more, line_more}
use Rattle.cut_search.specs.Beyond.{line-done, lines-done}
use Rattle.cut_search.specs.Found.{odd_with, found_vertex}
use Rattle.cut_search.specs.Laws.{odd_counted}
use native.Mathlib.Omega.{arith}
use Rattle.cut.specs.Odd.{odd?, odd_vertices}
use Rattle.cut.specs.Extent.{lines_of, columns_of}
use Rattle.net.specs.View.{pairs_of}
use Rattle.board.specs.View.{board_of}
use Rattle.board.specs.Board.{at}
use Rattle.count.specs.Lists.{first, first-yes, first-no}
use mathlib.Core.Path.{◌≡◌, refl, ap, sym, ◌∙◌}
use Prim.Native.Nat.{ℕ, ◌+◌, ◌*◌, ◌<◌}
use lib.ListN.{get_or}
use Rattle.cut_search.proofs.first_odd.Goals as goal

pub lines-init : goal.lines-init
unfolding odd_vertices
lines-init c = (
  omega arith,
  c.lines_of-lines.ensures,
  refl,
  λ ps C. ap (first (odd? (board_of c.args.b) ps)) lines_all,
)

pub loop-column-init : goal.loop-column-init
loop-column-init c = let lines = c.lines in let b = board_of c.args.b in
    let h : lines.line < 32 = omega (arith, lines.invariant.1, c.lines-test.true) in (
      h,
      omega arith,
      c.columns_of-columns.ensures,
      lines.invariant.2,
      λ ps C. sym (ap (first (odd? b ps)) (lines_more lines.line h)) ∙ lines.invariant.3 ps C,
    )

pub loop-column-preserved : goal.loop-column-preserved
loop-column-preserved c = let at-loop = c.loop-column in
    let start = c in
    let l = c.lines.line in
    let b = board_of start.args.b in
    let a = start.count_terminals-counts.result in
    let i : c.from.result * 32 + c.from-in-loop-column.result ≡ l * 32 + at-loop.column =
    rw (c.from.ensures, c.from-in-loop-column.ensures) refl in
    let e : c.is_odd.result ≡ odd_with b (get_or a (l * 32 + at-loop.column) 0) (at l at-loop.column) =
    c.is_odd.ensures ∙ ap (λ (k : ℕ). odd_with b (get_or a k 0) (at l at-loop.column)) i in
    let h : at-loop.column < 32 = omega (arith, at-loop.invariant.2, c.loop-column-test.true) in (
      at-loop.invariant.0,
      omega arith,
      at-loop.invariant.2,
      at-loop.invariant.3,
      λ ps C.
          sym (first-no (odd? b ps) (line_more l at-loop.column (lines_from (l + 1)) h)
          (sym (odd_counted b ps a C l at-loop.column at-loop.invariant.0 h) ∙ (sym e ∙ c.if-is_odd.false))) ∙ at-loop.invariant.4 ps C,
    )

pub lines-preserved : goal.lines-preserved
lines-preserved c = let at-loop = c.loop-column in let lines = c.lines in
    let b = board_of c.args.b in
    let e : at-loop.column ≡ columns_of b lines.line = omega (arith, at-loop.invariant.2) in (
      omega arith,
      lines.invariant.1,
      at-loop.invariant.3,
      λ ps C. sym (line-done b ps lines.line at-loop.column (lines_from (lines.line + 1)) e) ∙ at-loop.invariant.4 ps C,
    )

pub returns-then-is_odd : goal.returns-then-is_odd
returns-then-is_odd c = let at-loop = c.loop-column in
    let b = board_of c.args.b in let ps = pairs_of c.args.nets in
    let counted = c.count_terminals-counts in let a = counted.result in
    let l = c.lines.line in
    let i : c.from.result * 32 + c.from-in-loop-column.result ≡ l * 32 + at-loop.column =
    rw (c.from.ensures, c.from-in-loop-column.ensures) refl in
    let e : c.is_odd.result ≡ odd_with b (get_or a (l * 32 + at-loop.column) 0) (at l at-loop.column) =
    c.is_odd.ensures ∙ ap (λ (k : ℕ). odd_with b (get_or a k 0) (at l at-loop.column)) i in
    let h : at-loop.column < 32 = omega (arith, at-loop.invariant.2, c.loop-column-test.true) in
    ap found_vertex (sym (first-yes (odd? b ps) (line_more l at-loop.column (lines_from (l + 1)) h)
    (sym (odd_counted b ps a counted.ensures l at-loop.column at-loop.invariant.0 h)
    ∙ (sym e ∙ c.if-is_odd.true))) ∙ at-loop.invariant.4 ps counted.ensures)

pub returns-after-lines : goal.returns-after-lines
returns-after-lines c = let lines = c.lines in
    let b = board_of c.args.b in let ps = pairs_of c.args.nets in
    let e : lines.line ≡ lines_of b = omega (arith, c.lines-test.false, lines.invariant.0, lines.invariant.1) in
    rw lines.invariant.2 (ap found_vertex (sym (lines-done b ps lines.line e) ∙ lines.invariant.3 ps c.count_terminals-counts.ensures))
