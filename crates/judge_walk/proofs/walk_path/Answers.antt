-- `walk_path` walks as the definition does. The invariant: from where the code stands, with the runs from place k on, the walk comes to the same.
use native.Mathlib.Omega.{arith}
use mathlib.Core.Path.{◌≡◌}
use Rattle.std.proofs.Common.{◌+◌, rules}
use Rattle.std.proofs.lemmas.Result.{err_from_is_err_and}
use Rattle.judge_shape.proofs.Answered.{map_err_ok, map_err_err}
use Rattle.judge_walk.specs.WalkLaws.{runs_on, path-passed, path-missed, path-refused}
use Rattle.judge_walk.proofs.walk_path.Goals as goal

pub returns-in_err-v : goal.returns-in_err-v
returns-in_err-v c =
    let p = err_from_is_err_and c.from_residual.result c.from_residual.ensures.1 in
    let m = map_err_err _ c.walk_run.result c.map_err.ensures.cases c.in_err-v.was in
    let q : c.in_err-v.field-0.0 ≡ record { fault = m.0; place = c.args.index + c.loop-k.k + 1 } = search rules in
    rw (p.1, p.2, q) (path-refused c.loop-k.invariant (omega arith) c.run_in.ensures.value c.walk_run.ensures m.1 (omega arith))

pub loop-k-preserved : goal.loop-k-preserved
loop-k-preserved c =
    let m = map_err_ok _ c.walk_run.result c.map_err.ensures.cases c.in_ok-v.was in
    runs_on c.loop-k.invariant (omega arith) c.run_in.ensures.value c.walk_run.ensures m

pub returns-then-eq : goal.returns-then-eq
returns-then-eq c = path-passed c.loop-k.invariant (omega arith) (cc c.eq.ensures)

pub returns-else-eq : goal.returns-else-eq
returns-else-eq c = path-missed c.loop-k.invariant (omega arith) (cc c.eq.ensures)
