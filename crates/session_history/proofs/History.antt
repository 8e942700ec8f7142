-- Demand 3 for adds, lists of nets, withdrawals, take-backs, keeps, returns and moves to the new rule: over every list of calls from a fresh session,
-- refused ones included, the session handed back last is the list machine's, and each answer is the machine's.
-- Assumes of each call only its promise.
use Rattle.std.specs.Prelude.{◌≡◌, refl, true, List, [], ◌∷◌, ◌++◌}
use Rattle.std.proofs.Common.{ap, subst}
use Rattle.board.specs.Board.{Within}
use Rattle.board.specs.Path.{Convex}
use Rattle.board_block.specs.Taken.{taken_fine?}
use Rattle.board_block.specs.View.{block_of}
use Rattle.board_block.specs.declared.Block as code
use Rattle.session_rules.specs.Session as machine
use Rattle.session_rules.specs.Machine.{Call, Answer, step, after, answers}
use Rattle.session_rules.specs.Sound.{Sound, Fresh, bare}
use Rattle.session.specs.declared.Session.{Session}
use Rattle.session.specs.View.{session_of}
use Rattle.session.specs.Promise.{FreshPromise}
use Rattle.session_history.specs.Made.{Made, Meets, handed, call_of, answer_of, Chain, last, calls_of, answers_of, Everywhere, Never}
use Rattle.session_history.proofs.Call.{MadeAs, made_as}

-- DEFINITION: after the calls ms from the session s, all is as the machine has it
pub record AsTheMachine (s : Session) (ms : List Made) : Type 0 where
  -- "after it the board, nets and pile are those of 01's list machine", and the names (02, §5),
  pub session : session_of (last s ms) ≡ after (session_of s) (calls_of ms)
  -- "and each add, withdrawal and take-back", and each other call that it takes, "was answered as the machine answers"
  pub answer : answers_of ms ≡ answers (session_of s) (calls_of ms)
  -- no session was found unsound on the way, and the last one is sound
  pub no_20 : Never 20 (answers_of ms)
  pub sound : Sound (session_of (last s ms))

-- ── lists joined ──
pub after_append : (s : machine.Session) (xs ys : List Call) → after s (xs ++ ys) ≡ after (after s xs) ys
unfolding after
after_append s [] ys = refl
after_append s (x ∷ xs) ys = after_append (step s x).next xs ys

pub answers_append : (s : machine.Session) (xs ys : List Call) → answers s (xs ++ ys) ≡ answers s xs ++ answers (after s xs) ys
unfolding after answers
answers_append s [] ys = refl
answers_append s (x ∷ xs) ys = ap (λ (l : List Answer). (step s x).answer ∷ l) (answers_append (step s x).next xs ys)

never_append : (xs ys : List Answer) → Never 20 xs → Never 20 ys → Never 20 (xs ++ ys)
never_append [] ys f g = g
never_append (x ∷ xs) ys f g = (f.0, never_append xs ys f.1 g)

-- ── one call, and the rest ──
more : (s : Session) (m : Made) (ms : List Made) → MadeAs s m → AsTheMachine (handed s m) ms → AsTheMachine s (m ∷ ms)
more s m ms k r = record {
  session = rw (after_append (session_of s) (call_of m) (calls_of ms), ← k.session) r.session;
  answer = rw (answers_append (session_of s) (call_of m) (calls_of ms), ← k.session, ← k.answer)
      (ap (λ (l : List Answer). answer_of m ++ l) r.answer);
  no_20 = never_append (answer_of m) (answers_of ms) k.no_20 r.no_20;
  sound = r.sound;
}

pub from_sound : (s : Session) (ms : List Made) → Sound (session_of s) → Chain s ms → AsTheMachine s ms
unfolding after answers
from_sound s [] h k = record { session = refl; answer = refl; no_20 = tt; sound = h }
from_sound s (m ∷ ms) h k =
    let x = made_as s m h k.0 in
    more s m ms x (from_sound (handed s m) ms x.sound k.1)

-- ── the claim ──
-- From any fresh session.
pub as_the_machine : (s : Session) (ms : List Made) → Fresh (session_of s) → Chain s ms → AsTheMachine s ms
as_the_machine s ms f k = from_sound s ms f.sound k

-- From the session that `fresh` hands back on any convex board, with pins taken that are there: the machine starts with that board, no nets, an
-- empty pile and nothing kept.
pub history : (b : code.Block) (s : Session) (ms : List Made) → Within (block_of b).board → Convex (block_of b).board → taken_fine? (block_of b) ≡ true
    → FreshPromise b s → Chain s ms
    → AsTheMachine s ms
    × (session_of (last s ms) ≡ after (bare (block_of b)) (calls_of ms))
    × (answers_of ms ≡ answers (bare (block_of b)) (calls_of ms))
history b s ms w c t p k =
    let r = as_the_machine s ms (p.fresh w c t) k in
    (r, rw (← p.bare) r.session, rw (← p.bare) r.answer)

-- What holds of every call that is made on a sound session and meets its promise, holds of each call of the list, and of the session that
-- the machine holds at that call.
pub everywhere : (P : machine.Session → Made → Type 0) → ((s : Session) (m : Made) → Sound (session_of s) → Meets s m → P (session_of s) m)
    → (s : Session) (ms : List Made) → Sound (session_of s) → Chain s ms → Everywhere P (session_of s) ms
everywhere P each s [] h k = tt
everywhere P each s (m ∷ ms) h k =
    let x = made_as s m h k.0 in
    (each s m h k.0, subst (λ (t : machine.Session). Everywhere P t ms) x.session (everywhere P each (handed s m) ms x.sound k.1))
