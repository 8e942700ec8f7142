-- Definitions only: document 01's report, or number and place, for each answer of the code. Nothing is proved here.
use Rattle.std.specs.Prelude as rust
use Rattle.std.specs.Prelude.{Bool}
use Rattle.session_rules.specs.Refusal as machine
use Rattle.session_rules.specs.Refusal.{refusal}
use Rattle.call_rules.specs.Result.{Result}
use Rattle.call_rules.specs.Report as calls
use Rattle.words_bytes.specs.declared.FillError.{FillError}
use Rattle.words_bytes.specs.declared.FillError.TheVariants.{Uneven, Long}
use Rattle.judge_shape.specs.Refused.{refusal_of}
use Rattle.judge_shape.specs.declared.Fault.TheVariants.{Length}
use Rattle.judge_report.specs.declared.Report.{Report}
use Rattle.judge_list.specs.Verdicts.{report_by, value_by, refusal_in}
use Rattle.judge_list.specs.declared.BytesRefusal.{BytesRefusal}
use Rattle.judge_list.specs.declared.BytesRefusal.TheVariants as bytes
use Rattle.judge_list.specs.declared.Which.{Which}
use Rattle.judge_call.specs.declared.JudgeRefusal.{JudgeRefusal}
use Rattle.judge_call.specs.declared.JudgeRefusal.TheVariants as judging
use Rattle.judge_call.specs.declared.CompareRefusal.{CompareRefusal}
use Rattle.judge_call.specs.declared.CompareRefusal.TheVariants as comparing

-- what is wrong with bytes whose words do not fill a list
abbrev pub unfilled : FillError → JudgeRefusal
unfilled Uneven = judging.UnevenBytes
unfilled Long = judging.List (record { fault = Length; place = 0 })

-- the refusal of bytes that are one of two lists
abbrev pub in_list : Which → BytesRefusal → CompareRefusal
in_list k bytes.UnevenBytes = comparing.UnevenBytes
in_list k (bytes.List r) = comparing.List (record { list = k; refusal = r })

-- ── as numbers and places ──
abbrev pub judge_refusal : JudgeRefusal → machine.Refusal
judge_refusal judging.Unsound = refusal 20 0
judge_refusal judging.UnevenBytes = refusal 10 0
judge_refusal (judging.List r) = refusal_of r

abbrev pub judgement_of : rust.Result Report JudgeRefusal → Result calls.Report
judgement_of j = report_by judge_refusal j

abbrev pub compare_refusal : CompareRefusal → machine.Refusal
compare_refusal comparing.Unsound = refusal 20 0
compare_refusal comparing.UnevenBytes = refusal 10 0
compare_refusal (comparing.List r) = refusal_in r

abbrev pub likeness_of : rust.Result Bool CompareRefusal → Result Bool
likeness_of l = value_by compare_refusal l
