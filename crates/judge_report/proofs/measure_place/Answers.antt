-- `measure_place` measures the path of what a place holds: the part of the list that it hands on is the runs of that path.
use native.Mathlib.Omega.{arith}
use mathlib.Core.Path.{refl}
use Rattle.judge_walk.specs.PartLaws.{part_found, part_nothing}
use Rattle.judge_report.specs.Paths.{place_out, place_on}
use Rattle.judge_report.proofs.measure_place.Goals as goal

pub offset_bounds-words-start : goal.offset_bounds-words-start
offset_bounds-words-start c = let f = part_found c.part_at.ensures c.in-Some-part_at.is in omega arith

pub slice_bounds-measure_path-count : goal.slice_bounds-measure_path-count
slice_bounds-measure_path-count c = let f = part_found c.part_at.ensures c.in-Some-part_at.is in omega arith

pub slice_bounds-measure_path-start : goal.slice_bounds-measure_path-start
slice_bounds-measure_path-start c = let f = part_found c.part_at.ensures c.in-Some-part_at.is in omega arith

pub slice_bounds-measure_path-end : goal.slice_bounds-measure_path-end
slice_bounds-measure_path-end c = let f = part_found c.part_at.ensures c.in-Some-part_at.is in omega arith

pub returns-in-None-part_at-clause-measures_place : goal.returns-in-None-part_at-clause-measures_place
returns-in-None-part_at-clause-measures_place c =
    rw c.in-Some.is (place_out (part_nothing _ _ c.part_at.ensures c.in-None-part_at.is))

pub returns-in-Some-part_at-clause-measures_place : goal.returns-in-Some-part_at-clause-measures_place
returns-in-Some-part_at-clause-measures_place c =
    rw c.in-Some.is (place_on (part_found c.part_at.ensures c.in-Some-part_at.is) c.measure_path-t.ensures.measured refl)
