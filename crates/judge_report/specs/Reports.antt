-- Definitions only: the report that a value of the code stands for. Nothing is proved here.
use Rattle.call_rules.specs.Report as calls
use Rattle.judge_report.specs.declared.Report.{Report}

abbrev pub report_is : Report → calls.Report
report_is r = record { edges = r.edges; turns = r.turns; knock_knees = r.knocks }
