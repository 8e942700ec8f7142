use Prim.Native.Nat.{◌*◌, ◌≤◌}
use Rattle.judge_report.specs.Paths.{Measuring}
use Rattle.judge_report.proofs.report_of.Given as goal

abbrev pub invariant-loop-place : goal.invariant-loop-place
invariant-loop-place l = (l.sum.edges ≤ 600000 * l.place-index) × (l.sum.turns ≤ 600000 * l.place-index)
    × Measuring l.fn.nets l.words l.initial.marks l.place-index l.sum l.marks
