-- Definitions only: the line of what a call that changes a session answers: "accepted", or "refused" with the number and the place; of a list of nets
-- also how many went on. Nothing is proved here.
use Rattle.std.specs.Prelude.{cond, List, [], ◌∷◌, ℕ, eqb}
use Rattle.std.proofs.Math.Option.{none, some}
use Rattle.text.specs.Line.{line_of, accepted_name, refused_line, refused_after_line}
use Rattle.session_rules.specs.Refusal.{refusal}
use Rattle.session_rules.specs.Machine.{Answer, accepted, refused, went_on}
use Rattle.session_answers.specs.declared.Told.{Told}

abbrev pub answer_line : Answer → List ℕ
answer_line accepted = line_of accepted_name []
answer_line (refused r) = refused_line r.number r.place
answer_line (went_on k none) = line_of accepted_name (k ∷ [])
answer_line (went_on k (some r)) = refused_after_line r.number r.place k

-- the answer that a number and a place tell: number 0 is "accepted"
abbrev pub told_answer : Told → Answer
told_answer t = cond (eqb t.number 0) accepted (refused (refusal t.number t.place))
