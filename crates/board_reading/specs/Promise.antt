-- Definitions only: what reading promises. Nothing is proved here: PromiseLaws has the laws.
use Rattle.std.specs.Prelude as prelude
use Rattle.std.specs.Prelude.{◌≡◌, ℕ}
use Rattle.std.proofs.Math.Option.{Option, none, some}
use Rattle.session_rules.specs.Refusal.{Refusal}
use Rattle.session_rules.specs.Session.{Session}
use Rattle.session.specs.View.{session_of}
use Rattle.call_rules.specs.Result.{Result, no, yes}
use Rattle.call_rules.specs.Reading.{handed_back}
use Rattle.board_reading.specs.Value.{read_value}
use Rattle.session.specs.declared.Session as code
use Rattle.board_reading.specs.Refused.{read_refusal}
use Rattle.board_reading.specs.declared.ReadRefusal.{ReadRefusal}
use Rattle.session.specs.declared.After.{After}

-- what reading hands back: its answer, and the session
abbrev pub AfterRead : Type 0
AfterRead = After (prelude.Result Unit ReadRefusal)

-- document 01's number and place of an answer
abbrev pub read_answer : prelude.Result Unit ReadRefusal → Option Refusal
read_answer (prelude.Ok u) = none
read_answer (prelude.Err e) = some (read_refusal e)

-- the refusal of a result, if there is one
abbrev pub refusal_in : Result Session → Option Refusal
refusal_in (no r) = some r
refusal_in (yes s) = none

-- the answer is that of the definition's result x, the session is its value, and stands for its session
pub record ReadPromise (x : Result Session) (r : AfterRead) : Type 0 where
  pub answers : read_answer r.answer ≡ refusal_in x
  pub value : r.session ≡ read_value x
  pub session : session_of r.session ≡ handed_back x

-- the session that reading gives, or the refusal in its place, as the definition's result x
abbrev pub SessionPromise : Result Session → prelude.Result code.Session ReadRefusal → Type 0
SessionPromise x (prelude.Err e) = x ≡ no (read_refusal e)
SessionPromise x (prelude.Ok s) = (x ≡ yes (session_of s)) × (s ≡ read_value x)
