-- `report_of` gives the report on a list's paths. The invariant: the first places are measured.
use native.Mathlib.Omega.{arith}
use mathlib.Core.Path.{◌∙◌}
use Rattle.judge_report.specs.Knocks.{knocks_counted}
use Rattle.judge_report.specs.Marks.{says_none}
use Rattle.judge_report.specs.Paths.{measuring_start, measuring_on, measuring_done}
use Rattle.judge_report.proofs.report_of.Goals as goal

pub loop-place-init : goal.loop-place-init
loop-place-init c = (omega arith, omega arith, measuring_start)

pub measure_place-sum-requires-clause-edges_bound : goal.measure_place-sum-requires-clause-edges_bound
measure_place-sum-requires-clause-edges_bound c = (omega arith, omega arith)

pub loop-place-preserved : goal.loop-place-preserved
loop-place-preserved c = (
  omega arith,
  omega arith,
  measuring_on c.loop-place.invariant.2 (omega arith) c.measure_place-sum.ensures.measures_place,
)

pub returns : goal.returns
returns c =
    measuring_done c.loop-place.invariant.2 (omega arith) says_none (c.count_knocks.ensures.value ∙ knocks_counted c.loop-place.marks)
