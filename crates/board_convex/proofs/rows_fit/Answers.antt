-- `rows_fit` computes its test. The loop's invariant: the answer so far is the test's on the rows passed.
use native.Mathlib.Omega.{arith}
use native.Mathlib.Numerals.{add-one}
use lib.ListN.{length, take}
use mathlib.Core.Path.{◌≡◌, refl}
use Rattle.std.proofs.Common.{length-take-le}
use Rattle.std.proofs.lemmas.List.{get_or-take}
use Rattle.board.specs.Board.{no_row}
use Rattle.board_convex.specs.Test.{rows_fit}
use Rattle.board_convex.proofs.rows_fit.Goals as goal

pub loop-row-init : goal.loop-row-init
unfolding rows_fit
loop-row-init c = refl

pub loop-row-preserved : goal.loop-row-preserved
unfolding rows_fit
loop-row-preserved c =
    let at = c.loop-row in let rows = c.args.rows in
    let l : length (take c.args.n rows) ≡ c.args.n = length-take-le c.args.n rows (omega arith) in
    let e = get_or-take c.args.n rows at.row-index no_row (omega arith) in
    rw (add-one at.row-index, ← at.invariant, e) refl

pub returns : goal.returns
returns c =
    let at = c.loop-row in
    let l : length (take c.args.n c.args.rows) ≡ c.args.n = length-take-le c.args.n c.args.rows (omega arith) in
    let e : at.row-index ≡ c.args.n = omega arith in
    rw e at at.invariant
