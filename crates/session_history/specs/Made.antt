-- Definitions only: a list of calls with what each handed back (document 01, "Each call gets the session that the last one, refused or not,
-- handed back, and nothing else changes it in between"; demand 3). Nothing is proved here.
-- A further call that the machine takes is one more constructor of its Call, with a CallPromise, and nothing here.
use Rattle.std.specs.Prelude.{◌≡◌, List, [], ◌∷◌, ◌++◌, ℕ}
use Rattle.std.proofs.Math.Option.{Option, none, some}
use Rattle.session_rules.specs.Refusal.{Refusal}
use Rattle.session_rules.specs.Session as machine
use Rattle.session_rules.specs.Machine.{Call, Answer, refusal_of, after}
use Rattle.session.specs.declared.Session.{Session}
use Rattle.session.specs.View.{session_of}
use Rattle.session.specs.Promise.{CallPromise}
use Rattle.call_rules.specs.Route.{Routes, RoutesBytes}
use Rattle.route_call.specs.Answers.{RouteAnswer, route_answer}

-- a call that was made, with its arguments, and what it handed back
pub data Made : Type 0 where
  -- one that the machine takes: its answer, and the session handed back
  changed : Call → Answer → Session → Made
  -- routing: the lent buffer of words, or of bytes, before; the answer; the buffer after
  routed : (before : List ℕ) → RouteAnswer → (after : List ℕ) → Made
  routed_bytes : (before : List ℕ) → RouteAnswer → (after : List ℕ) → Made

-- made on the session s, it met the promise of its kind; the promise of every call that the machine takes has a CallPromise
abbrev pub Meets : Session → Made → Type 0
Meets s (changed c a t) = CallPromise s c a t
Meets s (routed before r after) = Routes (session_of s) before (route_answer r) after
Meets s (routed_bytes before r after) = RoutesBytes (session_of s) before (route_answer r) after

-- the session after it, where s was the one before
abbrev pub handed : Session → Made → Session
handed s (changed c a t) = t
handed s (routed before r after) = s
handed s (routed_bytes before r after) = s

-- what the machine is fed of it: "only the calls and their arguments, the session left out". Routing is none that it takes.
abbrev pub call_of : Made → List Call
call_of (changed c a t) = c ∷ []
call_of (routed before r after) = []
call_of (routed_bytes before r after) = []

-- what it answered, where the machine answers too
abbrev pub answer_of : Made → List Answer
answer_of (changed c a t) = a ∷ []
answer_of (routed before r after) = []
answer_of (routed_bytes before r after) = []

-- ── a list of them ──
-- each call was made on the session that the one before it handed back, the first on s
abbrev pub Chain : Session → List Made → Type 0
Chain s [] = Unit {0}
Chain s (m ∷ ms) = Meets s m × Chain (handed s m) ms

-- the session after them all
abbrev pub last : Session → List Made → Session
last s [] = s
last s (m ∷ ms) = last (handed s m) ms

abbrev pub calls_of : List Made → List Call
calls_of [] = []
calls_of (m ∷ ms) = call_of m ++ calls_of ms

abbrev pub answers_of : List Made → List Answer
answers_of [] = []
answers_of (m ∷ ms) = answer_of m ++ answers_of ms

-- P holds of every call and of the session that the machine, started with s, then holds
abbrev pub Everywhere : (machine.Session → Made → Type 0) → machine.Session → List Made → Type 0
Everywhere P s [] = Unit {0}
Everywhere P s (m ∷ ms) = P s m × Everywhere P (after s (call_of m)) ms

-- ── the numbers of answers ──
-- the number of a refusal, 0 where there is none
abbrev pub number_in : Option Refusal → ℕ
number_in none = 0
number_in (some r) = r.number

abbrev pub number_of : Answer → ℕ
number_of a = number_in (refusal_of a)

-- none of the answers is the refusal of this number
abbrev pub Never : ℕ → List Answer → Type 0
Never k [] = Unit {0}
Never k (a ∷ rest) = (number_of a ≡ k → ⊥) × Never k rest
