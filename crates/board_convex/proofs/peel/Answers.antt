-- `peel` computes its test. The loop's invariant: with what was found so far, the peeling of the rows that are left gives the whole answer.
use native.Mathlib.Omega.{arith}
use Prim.Native.Nat.{◌-◌}
use mathlib.Core.Path.{◌≡◌, refl, sym, ◌∙◌}
use Rattle.board_convex.specs.PeelLoop.{take-top, take-bottom, take_last}
use borrow.Author.Rules.{rules}
use Rattle.board_convex.proofs.peel.Goals as goal

pub loop-lo-init : goal.loop-lo-init
loop-lo-init c =
    let e : c.args.last - 0 ≡ c.args.last = omega arith in
    (search rules, search rules, rw e refl)

pub loop-lo-preserved-then-contains : goal.loop-lo-preserved-then-contains
loop-lo-preserved-then-contains c =
    let rows = c.args.rows in
    let at = c.loop-lo in (
      search rules,
      search rules,
      rw c.contains-ok.ensures (take-top rows at.ok _ at.inner at.lo at.hi at.invariant.2 (omega arith)
          (sym c.contains.ensures ∙ c.if-contains.true)),
    )

pub loop-lo-preserved : goal.loop-lo-preserved
loop-lo-preserved c =
    let rows = c.args.rows in
    let at = c.loop-lo in (
      search rules,
      search rules,
      rw c.contains-ok-else-contains.ensures (take-bottom rows at.ok _ at.inner at.lo at.hi at.invariant.2 (omega arith)
          (sym c.contains.ensures ∙ c.if-contains.false)),
    )

pub returns : goal.returns
returns c =
    let rows = c.args.rows in
    let at = c.loop-lo in
    rw c.contains-2.ensures (take_last rows at.ok _ at.inner at.lo at.hi at.invariant.2 (omega arith))
