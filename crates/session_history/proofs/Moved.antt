-- After a move to the new rule (document 02, §10): "A routing after the move is given or refused as if the nets had been entered afresh under the new
-- book." The same nets, added one by one to the bare board under the new book, are refused nowhere (`none_refused`) and leave the same board and nets
-- (`same_block`, `same-nets`); so routing calls are given or refused alike (`routed-alike`).
-- Assumes of each call only its promise.
use Rattle.std.specs.Prelude.{◌≡◌, refl, List, ℕ, length, replicate}
use Rattle.std.proofs.Common.{ap, sym, ◌∙◌, inl, inr, arith}
use Rattle.count.specs.TruthLaws.{bool, clash}
use Rattle.session_rules.specs.Refusal.{refusal}
use Rattle.session_rules.specs.Session as machine
use Rattle.session_rules.specs.NewRule.{under_new}
use Rattle.session_rules.specs.Machine.{move_over, accepted, refused, Step, after}
use Rattle.session_rules.specs.OneByOne.{singly}
use Rattle.session_rules.specs.Moves.{Afresh}
use Rattle.session_rules.specs.Sound.{Sound, sound?, bare, call}
use Rattle.session_laws.proofs.Exact.{sound_exact, unsound_call}
use Rattle.session_laws.proofs.Stays.{fresh_bare}
use Rattle.session_laws.proofs.Moves as laws
use Rattle.session.specs.declared.Session.{Session}
use Rattle.session.specs.Promise.{CallPromise}
use Rattle.session.specs.View.{session_of}
use Rattle.route_call.specs.Answers.{RouteAnswer}
use Rattle.session_history.specs.Made.{Made, routed, routed_bytes, Meets, Chain, last, calls_of, answers_of}
use Rattle.session_history.specs.Demand.{RefusedAlike}
use Rattle.session_history.proofs.History.{from_sound}
use Rattle.session_history.proofs.Listed.{refuses, refuses_bytes, alike}
use Rattle.session_history.specs.SameBoard.{same_board}

-- t is handed back by an accepted move of s; u is a session on the bare board under the new book, and ms are single adds of the nets of s
module _ (s t u : Session) (move : CallPromise s move_over accepted t) (start : session_of u ≡ bare (under_new (session_of s).block)) (ms : List Made)
    (each : Chain u ms) (single : calls_of ms ≡ singly (session_of s).nets) where
  -- a call that is accepted was made on a sound session
  sound : Sound (session_of s)
  sound = elim (bool (sound? (session_of s))) [
    | inl e ↦ (sound_exact (session_of s)).0 e
    | inr e ↦ absurd (
        let x = unsound_call (session_of s) move_over (λ h. clash ((sound_exact (session_of s)).1 h) e) in
        let f : accepted ≡ refused (refusal 20 0) = move.answers ∙ ap (λ (y : Step). y.answer) x in
        let z : ◌≡◌ {A = ℕ} 0 1 = cc in
        omega arith
        )
  ]

  -- DEFINITION: the machine's session after the move
  abbrev next : machine.Session
  next = (call (session_of s) move_over).next

  next-sound : Sound next
  next-sound = laws.next-sound (session_of s) (sym move.answers) sound

  start-sound : Sound (session_of u)
  start-sound =
      let b = laws.next-block (session_of s) (sym move.answers) sound in
      rw (start, ← b) (fresh_bare next.block next-sound.within next-sound.convex next-sound.taken).sound

  entered : session_of (last u ms) ≡ after (bare (under_new (session_of s).block)) (singly (session_of s).nets)
  entered = (from_sound u ms start-sound each).session ∙ rw (start, single) refl

  -- what the machine's law says of them
  afresh : Afresh (under_new (session_of s).block) (session_of s).nets next
  afresh = laws.as_afresh (session_of s) (sym move.answers) sound

  pub none_refused : answers_of ms ≡ replicate (length (session_of s).nets) accepted
  none_refused = (from_sound u ms start-sound each).answer ∙ (rw (start, single) afresh.none_refused)

  pub same_block : (session_of (last u ms)).block ≡ (session_of t).block
  same_block = ap (λ (m : machine.Session). m.block) entered ∙ afresh.block ∙ ap (λ (m : machine.Session). m.block) (sym move.next)

  pub same-nets : (session_of (last u ms)).nets ≡ (session_of t).nets
  same-nets = ap (λ (m : machine.Session). m.nets) entered ∙ afresh.nets ∙ ap (λ (m : machine.Session). m.nets) (sym move.next)

  moved_sound : Sound (session_of t)
  moved_sound = rw move.next next-sound

  pub routed-alike : (before : List ℕ) (x y : RouteAnswer) (after after' : List ℕ)
      → (Meets t (routed before x after) → Meets (last u ms) (routed before y after') → RefusedAlike x y)
      × (Meets t (routed_bytes before x after) → Meets (last u ms) (routed_bytes before y after') → RefusedAlike x y)
  routed-alike before x y after after' =
      let m = session_of t in let n = session_of (last u ms) in
      let board : m.block.board ≡ n.block.board = ap (λ b. b.board) (sym same_block) in
      let same = same_board m n moved_sound (from_sound u ms start-sound each).sound board (sym same-nets) in (
        λ p q. alike (refuses m p) (refuses m ((same.routed before _ after').1 q)),
        λ p q. alike (refuses_bytes m p) (refuses_bytes m ((same.routed_bytes before _ after').1 q)),
      )
