use Rattle.count.specs.Lists.{rising_more, rising_none, first-yes, first-no, first_none}
use native.Mathlib.Omega.{arith}
use Rattle.cut.specs.declared.Cut.TheVariants.{Row}
use Rattle.cut_search.specs.Found.{overfull_rows, found_cut}
use Rattle.cut.specs.Cut.{overfull?}
use Rattle.net.specs.View.{pairs_of}
use Rattle.board.specs.View.{board_of}
use Rattle.board.specs.ViewLaws.{height_of}
use Rattle.count.specs.Lists.{rising_more, rising_none, first-yes, first-no}
use mathlib.Core.List.{map}
use mathlib.Core.Path.{◌≡◌, refl, ap, sym, ◌∙◌}
use Prim.Native.Nat.{◌-◌}
use Rattle.cut_search.proofs.overfull_row.Goals as goal

pub loop-i-init : goal.loop-i-init
unfolding overfull_rows
loop-i-init c = let e : c.args.b.count - 0 ≡ c.args.b.count = omega arith in (omega arith, rw (height_of c.args.b, e) refl)

pub returns-then-is_overfull : goal.returns-then-is_overfull
unfolding overfull_rows
returns-then-is_overfull c = ap found_cut (sym (first-yes (overfull? (board_of c.args.b)
    (pairs_of c.args.nets))
    (ap (map Row) (rising_more c.loop-i.i c.args.b.count (omega arith)))
    (sym c.is_overfull.ensures.same ∙ c.if-is_overfull.true)) ∙ c.loop-i.invariant.1)

pub loop-i-preserved : goal.loop-i-preserved
unfolding overfull_rows
loop-i-preserved c = (
  omega arith,
  sym (first-no (overfull? (board_of c.args.b)
      (pairs_of c.args.nets))
      (ap (map Row) (rising_more c.loop-i.i c.args.b.count (omega arith)))
      (sym c.is_overfull.ensures.same ∙ c.if-is_overfull.false)) ∙ c.loop-i.invariant.1,
)

pub returns : goal.returns
unfolding overfull_rows
returns c =
    let e : c.loop-i.i ≡ c.args.b.count = omega arith in
    ap found_cut (sym (first_none (overfull? (board_of c.args.b) (pairs_of c.args.nets))
    (ap (map Row) (rising_none c.args.b.count))) ∙ rw e at c.loop-i.invariant.1)
