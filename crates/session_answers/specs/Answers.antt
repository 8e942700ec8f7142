-- Definitions only: the number and place of document 01, or 02, for each answer of a call that changes a session. Nothing is proved here.
use Rattle.std.specs.Prelude.{cond, Bool, ◌&&◌, ℕ, ◌+◌, ltb, get_or, Result, Ok, Err, is_ok}
use Rattle.std.proofs.Math.Option.{Option, none, some}
use Rattle.session_rules.specs.Refusal.{Refusal, refusal}
use Rattle.session_rules.specs.NewRule.{over_refusal}
use Rattle.session_rules.specs.Machine.{Answer, accepted, refused, went_on, refusal_of}
use Rattle.session_answers.specs.declared.AddRefusal.{AddRefusal}
use Rattle.session_answers.specs.declared.AddRefusal.TheVariants.{Unsound, BadNumber, NumberTaken, NoVertex, SameVertex, PinsTaken}
use Rattle.session_answers.specs.declared.WithdrawRefusal.{WithdrawRefusal}
use Rattle.session_answers.specs.declared.WithdrawRefusal.TheVariants as withdraw-is
use Rattle.session_answers.specs.declared.TakeBackRefusal.{TakeBackRefusal}
use Rattle.session_answers.specs.declared.TakeBackRefusal.TheVariants as back_is
use Rattle.session_answers.specs.declared.KeepRefusal.{KeepRefusal}
use Rattle.session_answers.specs.declared.KeepRefusal.TheVariants as keep-is
use Rattle.session_answers.specs.declared.ReturnRefusal.{ReturnRefusal}
use Rattle.session_answers.specs.declared.ReturnRefusal.TheVariants as return-is
use Rattle.session_answers.specs.declared.MoveRefusal.{MoveRefusal}
use Rattle.session_answers.specs.declared.MoveRefusal.TheVariants as move_is
use Rattle.session_answers.specs.declared.AddAllAnswer.{AddAllAnswer}
use Rattle.session_answers.specs.declared.Told.{Told}

abbrev pub add_refusal : AddRefusal → Refusal
add_refusal Unsound = refusal 20 0
add_refusal BadNumber = refusal 21 0
add_refusal NumberTaken = refusal 22 0
add_refusal (NoVertex p) = refusal 23 p
add_refusal SameVertex = refusal 24 0
add_refusal (PinsTaken p) = refusal 25 p

abbrev pub withdraw_refusal : WithdrawRefusal → Refusal
withdraw_refusal withdraw-is.Unsound = refusal 20 0
withdraw_refusal withdraw-is.NotOnBoard = refusal 26 0

abbrev pub take_back_refusal : TakeBackRefusal → Refusal
take_back_refusal back_is.Unsound = refusal 20 0
take_back_refusal back_is.PileEmpty = refusal 27 0

abbrev pub keep_refusal : KeepRefusal → Refusal
keep_refusal keep-is.Unsound = refusal 20 0
keep_refusal keep-is.NoName = refusal 35 0

abbrev pub return_refusal : ReturnRefusal → Refusal
return_refusal return-is.Unsound = refusal 20 0
return_refusal return-is.NoName = refusal 35 0
return_refusal return-is.NothingKept = refusal 36 0

abbrev pub move_refusal : MoveRefusal → Refusal
move_refusal move_is.Unsound = refusal 20 0
move_refusal (move_is.PinsMissing v) = over_refusal v

-- the answer of a call that is accepted, or refused for a reason that stands for a refusal
abbrev pub answer_by : {R : Type 0} → (R → Refusal) → Result Unit R → Answer
answer_by f (Ok u) = accepted
answer_by f (Err r) = refused (f r)

abbrev pub add_answer : Result Unit AddRefusal → Answer
add_answer a = answer_by add_refusal a

abbrev pub withdraw_answer : Result Unit WithdrawRefusal → Answer
withdraw_answer a = answer_by withdraw_refusal a

abbrev pub take_back_answer : Result Unit TakeBackRefusal → Answer
take_back_answer a = answer_by take_back_refusal a

abbrev pub keep_answer : Result Unit KeepRefusal → Answer
keep_answer a = answer_by keep_refusal a

abbrev pub return_answer : Result Unit ReturnRefusal → Answer
return_answer a = answer_by return_refusal a

abbrev pub move_answer : Result Unit MoveRefusal → Answer
move_answer a = answer_by move_refusal a

-- of a list of nets: how many went on, and the refusal that stopped it, if one did
abbrev pub add_all_answer : AddAllAnswer → Answer
add_all_answer a = went_on a.count (refusal_of (add_answer a.last))

-- the answer after one add more, which counts where it was accepted
abbrev pub counting : AddAllAnswer → Result Unit AddRefusal → AddAllAnswer
counting a last = record { count = cond (is_ok last) (a.count + 1) a.count; last = last }

-- a refusal by its number and place; both are 0 where there is none
abbrev pub told_refusal : Option Refusal → Told
told_refusal none = record { number = 0; place = 0 }
told_refusal (some r) = record { number = r.number; place = get_or r.place 0 0 }

-- an answer by its number and place; both are 0 where the call is accepted
abbrev pub told : Answer → Told
told a = told_refusal (refusal_of a)
