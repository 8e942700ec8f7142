-- `walk_place` walks as the definition does: the part of the list that it hands on is the runs of the place's path.
use native.Mathlib.Omega.{arith}
use Rattle.std.proofs.lemmas.Result.{err_from_is_err_and}
use Rattle.judge_walk.specs.PartLaws.{part_found, part_nothing}
use Rattle.judge_walk.specs.WalkLaws.{place_out, place_on, place-refused}
use Rattle.judge_walk.proofs.walk_place.Goals as goal

pub overflow_cast-at : goal.overflow_cast-at
overflow_cast-at c = let f = part_found c.part_at.ensures c.in-Some-part_at.is in omega arith

pub offset_bounds-words-start : goal.offset_bounds-words-start
offset_bounds-words-start c = let f = part_found c.part_at.ensures c.in-Some-part_at.is in omega arith

pub slice_bounds-walk_path-count : goal.slice_bounds-walk_path-count
slice_bounds-walk_path-count c = let f = part_found c.part_at.ensures c.in-Some-part_at.is in omega arith

pub slice_bounds-walk_path-start : goal.slice_bounds-walk_path-start
slice_bounds-walk_path-start c = let f = part_found c.part_at.ensures c.in-Some-part_at.is in omega arith

pub slice_bounds-walk_path-end : goal.slice_bounds-walk_path-end
slice_bounds-walk_path-end c = let f = part_found c.part_at.ensures c.in-Some-part_at.is in omega arith

pub walk_path-requires : goal.walk_path-requires
walk_path-requires c = let f = part_found c.part_at.ensures c.in-Some-part_at.is in omega arith

pub returns-in-None-part_at : goal.returns-in-None-part_at
returns-in-None-part_at c = place_out c.in-Some.is (part_nothing _ _ c.part_at.ensures c.in-None-part_at.is)

pub returns-in_err-walk_path-in-Some-part_at : goal.returns-in_err-walk_path-in-Some-part_at
returns-in_err-walk_path-in-Some-part_at c =
    let p = err_from_is_err_and c.from_residual.result c.from_residual.ensures.1 in
    rw (p.1, p.2)
    (place-refused c.in-Some.is (part_found c.part_at.ensures c.in-Some-part_at.is) c.walk_path.ensures
    c.in_err-walk_path-in-Some-part_at.was)

pub returns-in_ok-walk_path-in-Some-part_at : goal.returns-in_ok-walk_path-in-Some-part_at
returns-in_ok-walk_path-in-Some-part_at c =
    place_on c.in-Some.is (part_found c.part_at.ensures c.in-Some-part_at.is) c.walk_path.ensures
    c.in_ok-walk_path-in-Some-part_at.was
