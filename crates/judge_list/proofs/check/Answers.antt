-- `check` decides whether a list passes: its shape first, then the walk.
use Rattle.std.proofs.lemmas.Result.{err_from_is_err_and}
use Rattle.net_places.specs.Places.{nets_of}
use Rattle.judge_shape.specs.Whole.{shape_fits}
use Rattle.judge_list.specs.VerdictLaws.{shape-stops, shape-lets, shape_passed}
use Rattle.judge_list.proofs.check.Goals as goal

pub returns-in_err-check_shape-clause-checks : goal.returns-in_err-check_shape-clause-checks
returns-in_err-check_shape-clause-checks c =
    let p = err_from_is_err_and c.from_residual.result c.from_residual.ensures.1 in
    rw (p.1, p.2) (shape-stops c.check_shape.ensures c.in_err-check_shape.was)

pub walk_paths-requires : goal.walk_paths-requires
walk_paths-requires c =
    let nets = nets_of c.args.nets in
    shape_fits nets c.args.words.now (shape_passed nets c.args.words.now c.check_shape.ensures c.in_ok-check_shape.was)

pub returns-clause-checks : goal.returns-clause-checks
returns-clause-checks c = shape-lets c.check_shape.ensures c.in_ok-check_shape.was c.walk_paths.ensures

pub returns-clause-words_len_bound : goal.returns-clause-words_len_bound
returns-clause-words_len_bound c =
    let nets = nets_of c.args.nets in
    λ e. shape_fits nets c.args.words.now (shape_passed nets c.args.words.now c.check_shape.ensures c.in_ok-check_shape.was)
