-- `measure_path` measures a path. The invariant: its first runs are traced, and the trace grew by at most 255 with each.
use native.Mathlib.Omega.{arith}
use Rattle.judge_report.specs.Tracing.{tracing_on, tracing_done}
use Rattle.judge_report.proofs.measure_path.Goals as goal

pub loop-word-preserved : goal.loop-word-preserved
loop-word-preserved c = (
  record { line = omega arith; column = omega arith; edges = omega arith; turns = omega arith },
  tracing_on c.loop-word.invariant.1 (omega arith) c.run_in-run.ensures.value c.trace_run-t.ensures.value c.mark_run.ensures,
)

pub returns-clause-measured : goal.returns-clause-measured
returns-clause-measured c = rw (c.from.ensures, c.from-2.ensures) at (tracing_done c.loop-word.invariant.1 (omega arith))
