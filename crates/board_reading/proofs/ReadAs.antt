-- What a reading that kept its promise answered, as the definition's result: the refusal, or the session that is handed back.
-- Assumes the promise.
use Rattle.std.specs.Prelude.{◌≡◌, refl, ℕ, Ok, Err}
use Rattle.std.proofs.Common.{ap, sym, ◌∙◌, arith}
use Rattle.std.proofs.Math.Option.{none, some}
use Rattle.session_rules.specs.Refusal.{Refusal}
use Rattle.session_rules.specs.Session.{Session}
use Rattle.session.specs.View.{session_of}
use Rattle.call_rules.specs.Result.{Result, no, yes}
use Rattle.call_rules.specs.Reading.{handed_back}
use Rattle.board_reading.specs.Promise.{AfterRead, read_answer, refusal_in, ReadPromise}
use Rattle.board_reading.specs.Refused.{read_refusal}
use Rattle.board_reading.specs.declared.ReadRefusal.{ReadRefusal}

is_no : (x : Result Session) (r : Refusal) → some r ≡ refusal_in x → x ≡ no r
is_no (no q) r e = cc
is_no (yes s) r e = absurd (let z : ◌≡◌ {A = ℕ} 0 1 = cc in omega arith)

is_yes : (x : Result Session) → none ≡ refusal_in x → x ≡ yes (handed_back x)
is_yes (no q) e = absurd (let z : ◌≡◌ {A = ℕ} 0 1 = cc in omega arith)
is_yes (yes s) e = refl

pub read_refused : {x : Result Session} {r : AfterRead} → ReadPromise x r → (e : ReadRefusal) → r.answer ≡ Err e → x ≡ no (read_refusal e)
read_refused {x} P e h = is_no x (read_refusal e) (sym (ap read_answer h) ∙ P.answers)

pub read_accepted : {x : Result Session} {r : AfterRead} → ReadPromise x r → r.answer ≡ Ok tt → x ≡ yes (session_of r.session)
read_accepted {x} P h = is_yes x (sym (ap read_answer h) ∙ P.answers) ∙ ap yes (sym P.session)
