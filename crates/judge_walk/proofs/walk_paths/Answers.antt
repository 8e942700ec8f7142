-- `walk_paths` walks as the definition does. The invariant: from where the code stands, with the nets from place i on, the walk comes to the same.
use native.Mathlib.Omega.{arith}
use mathlib.Core.Path.{refl}
use Rattle.std.proofs.lemmas.Result.{err_from_is_err_and}
use Rattle.judge_walk.specs.WalkLaws.{paths_start, paths-on, paths-refused, paths-done}
use Rattle.judge_walk.proofs.walk_paths.Goals as goal

pub loop-i-init : goal.loop-i-init
loop-i-init c = paths_start

pub returns-in_err-at : goal.returns-in_err-at
returns-in_err-at c =
    let p = err_from_is_err_and c.from_residual.result c.from_residual.ensures.1 in
    rw (p.1, p.2) (paths-refused c.loop-i.invariant (omega arith) refl c.walk_place.ensures c.in_err-at.was)

pub loop-i-preserved : goal.loop-i-preserved
loop-i-preserved c = paths-on c.loop-i.invariant (omega arith) refl c.walk_place.ensures c.in_ok-at.was

pub returns : goal.returns
returns c = paths-done c.loop-i.invariant (omega arith)
