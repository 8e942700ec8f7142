-- `compare` gives the comparison, from the maps of the two lists.
use mathlib.Core.Path.{◌≡◌}
use Rattle.std.proofs.Common.{rules}
use Rattle.std.proofs.lemmas.Result.{err_from_is_err_and}
use Rattle.judge_shape.proofs.Answered.{map_err_ok, map_err_err}
use Rattle.judge_list.specs.declared.Which.TheVariants.{First, Second}
use Rattle.judge_list.specs.VerdictLaws.{first-refused, second-refused, maps-compared}
use Rattle.judge_list.proofs.compare.Goals as goal

pub returns-in_err-map_err : goal.returns-in_err-map_err
returns-in_err-map_err c =
    let p = err_from_is_err_and c.from_residual.result c.from_residual.ensures.1 in
    let m = map_err_err _ c.check.result c.map_err.ensures.cases c.in_err-map_err.was in
    let q : c.in_err-map_err.field-0.0 ≡ record { list = First; refusal = m.0 } = search rules in
    rw (p.1, p.2, q) (first-refused c.check.ensures.checks _ m.1)

pub returns-in_err-map_err-2 : goal.returns-in_err-map_err-2
returns-in_err-map_err-2 c =
    let passed = map_err_ok _ c.check.result c.map_err.ensures.cases c.in_ok-map_err.was in
    let p = err_from_is_err_and c.from_residual-in_err-map_err-2.result c.from_residual-in_err-map_err-2.ensures.1 in
    let m = map_err_err _ c.check-2.result c.map_err-2.ensures.cases c.in_err-map_err-2.was in
    let q : c.in_err-map_err-2.field-0.0 ≡ record { list = Second; refusal = m.0 } = search rules in
    rw (p.1, p.2, q) (second-refused c.check.ensures.checks passed c.check-2.ensures.checks m.1)

pub returns : goal.returns
returns c =
    let one = map_err_ok _ c.check.result c.map_err.ensures.cases c.in_ok-map_err.was in
    let two = map_err_ok _ c.check-2.result c.map_err-2.ensures.cases c.in_ok-map_err-2.was in
    maps-compared c.check.ensures.checks one c.check-2.ensures.checks two c.is_alike.ensures
