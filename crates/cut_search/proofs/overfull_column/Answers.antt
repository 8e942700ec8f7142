-- The loop goes through the columns from the left; from the last terminal's column on no net crosses one.
use native.Mathlib.Omega.{arith}
use Rattle.cut.specs.declared.Cut.TheVariants.{Column}
use Rattle.cut_search.specs.Found.{overfull_columns, found_cut}
use Rattle.cut_search.specs.Beyond.{columns_done}
use Rattle.cut.specs.Cut.{overfull?}
use Rattle.net.specs.View.{pairs_of}
use Rattle.board.specs.View.{board_of}
use Rattle.count.specs.Lists.{rising_more, first-yes, first-no}
use mathlib.Core.List.{map}
use mathlib.Core.Path.{refl, ap, sym, ◌∙◌}
use Rattle.cut_search.proofs.overfull_column.Goals as goal

pub loop-j-init : goal.loop-j-init
unfolding overfull_columns
loop-j-init c = (omega arith, omega (arith, c.min-end.ensures), refl)

pub returns-then-is_overfull : goal.returns-then-is_overfull
unfolding overfull_columns
returns-then-is_overfull c = let args = c.args in let loop = c.loop-j in
    ap found_cut (sym (first-yes (overfull? (board_of args.b) (pairs_of args.nets)) (ap (map Column) (rising_more loop.j 31 (omega arith)))
    (sym c.is_overfull.ensures.same ∙ c.if-is_overfull.true)) ∙ loop.invariant.2)

pub loop-j-preserved : goal.loop-j-preserved
unfolding overfull_columns
loop-j-preserved c = let args = c.args in let loop = c.loop-j in (
  omega arith,
  loop.invariant.1,
  sym (first-no (overfull? (board_of args.b) (pairs_of args.nets)) (ap (map Column) (rising_more loop.j 31 (omega arith)))
      (sym c.is_overfull.ensures.same ∙ c.if-is_overfull.false)) ∙ loop.invariant.2,
)

pub returns : goal.returns
unfolding overfull_columns
returns c = let args = c.args in let loop = c.loop-j in
    let last = c.last_column in let end = c.min-end.ensures in
    ap found_cut (sym (columns_done (board_of args.b) (pairs_of args.nets) last.result loop.j last.ensures (omega arith)) ∙ loop.invariant.2)
