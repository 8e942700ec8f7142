use Rattle.board.specs.Board.{at}
use Rattle.judge_report.specs.Traces.{Short}
use Rattle.judge_report.specs.Tracing.{Tracing}
use Rattle.judge_report.proofs.measure_path.Given as goal

abbrev pub invariant-loop-word : goal.invariant-loop-word
invariant-loop-word l =
    Short l.word-index l.t × Tracing (at l.initial.t.line l.initial.t.column) l.runs l.word-index l.t l.initial.marks l.marks
