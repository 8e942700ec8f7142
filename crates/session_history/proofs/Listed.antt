-- A list of nets added in one call, beside the same nets in calls of their own, up to the one refused: the sessions handed back stand for the same
-- (`as_singly`), so that "A routing after such a call is given or refused as after the single adds" (document 02, §1): `routed-as-singly`.
-- Assumes of each call only its promise.
use Rattle.std.specs.Prelude.{◌≡◌, refl, false, List, [], ◌∷◌, ◌↔◌, ℕ, ◌+◌, ◌/◌, length, take}
use Rattle.std.proofs.Common.{sym, subst, ◌∙◌, ap, inl, inr, arith}
use Rattle.std.proofs.Math.Option.{Option, none}
use Rattle.count.specs.TruthLaws.{bool}
use Rattle.board.specs.declared.Direction.{Direction}
use Rattle.net.specs.declared.Net.{Net}
use Rattle.routing_rules.specs.Routing.{Routing}
use Rattle.session_rules.specs.Session as machine
use Rattle.session_rules.specs.Session.{pairs}
use Rattle.session_rules.specs.Refusal.{Refusal}
use Rattle.session_rules.specs.Machine.{Call, add_all, went_on, step, after}
use Rattle.session_rules.specs.Sound.{Sound, sound?, call}
use Rattle.session_rules.specs.OneByOne.{singly}
use Rattle.session_laws.proofs.Exact.{sound_exact, call_step}
use Rattle.session_laws.proofs.OneByOne.{tried_next}
use Rattle.session.specs.declared.Session.{Session}
use Rattle.session.specs.View.{session_of}
use Rattle.session.specs.Promise.{CallPromise}
use Rattle.call_rules.specs.Result.{Result, no, yes}
use Rattle.call_rules.specs.Route.{route_refused, WhyRefused, Routes, RoutesBytes, refused, given}
use Rattle.call_rules.proofs.RouteLaws.{same_refusal, not_given}
use Rattle.route_call.specs.Answers.{RouteAnswer}
use Rattle.session_history.specs.Made.{Made, changed, routed, routed_bytes, Meets, Chain, last, calls_of}
use Rattle.session_history.specs.Demand.{RefusedAlike}
use Rattle.session_history.proofs.History.{from_sound}

-- ── an unsound session stays as it is ──
unsound_same : (m : machine.Session) (c : Call) → sound? m ≡ false → (call m c).next ≡ m
unfolding call
unsound_same m c e = rw e refl

unsound_chain : (s : Session) (ms : List Made) → sound? (session_of s) ≡ false → Chain s ms → session_of (last s ms) ≡ session_of s
unsound_chain s [] e k = refl
unsound_chain s (changed c a t ∷ ms) e k =
    let y : session_of t ≡ session_of s = k.0.next ∙ unsound_same (session_of s) c e in
    unsound_chain t ms (ap sound? y ∙ e) k.1 ∙ y
unsound_chain s (routed before r after ∷ ms) e k = unsound_chain s ms e k.1
unsound_chain s (routed_bytes before r after ∷ ms) e k = unsound_chain s ms e k.1

-- ── a routing call is refused exactly where the definition refuses it ──
-- DEFINITION: an answer is a refusal exactly where it is the definition's
abbrev pub Refuses : machine.Session → ℕ → Result ℕ → Type 0
Refuses m n a = (q : Refusal) → (a ≡ no q) ↔ WhyRefused m n q

when_refused : (m : machine.Session) (n : ℕ) {r : Refusal} → WhyRefused m n r → Refuses m n (no r)
when_refused m n {r} w q = (
  λ e. subst (λ (p : Refusal). WhyRefused m n p) (cc) w,
  λ v. ap no (same_refusal m n w v),
)

when_given : (m : machine.Session) (n k : ℕ) (paths : List (List Direction)) → route_refused m n ≡ none
    → Routing m.block.board (pairs m.nets) paths → Refuses m n (yes k)
when_given m n k paths e R q = (
  λ f. absurd (let z : ◌≡◌ {A = ℕ} 0 1 = cc in omega arith),
  λ w. absurd (not_given m n w e paths R),
)

pub refuses : (m : machine.Session) {before after : List ℕ} {a : Result ℕ} → Routes m before a after → Refuses m (length before) a
refuses m (refused w) = when_refused m _ w
refuses m (given {count = k} e H) = when_given m _ k H.paths e H.routing

pub refuses_bytes : (m : machine.Session) {before after : List ℕ} {a : Result ℕ} → RoutesBytes m before a after → Refuses m (length before / 4) a
refuses_bytes m (refused w) = when_refused m _ w
refuses_bytes m (given {count = k} e H) = when_given m _ k H.paths e H.routing

pub alike : {m : machine.Session} {n : ℕ} {a b : Result ℕ} → Refuses m n a → Refuses m n b → (q : Refusal) → (a ≡ no q) ↔ (b ≡ no q)
alike f g q = (λ e. (g q).1 ((f q).0 e), λ e. (f q).1 ((g q).0 e))

-- ── the one call, and the single adds ──
-- t is handed back by the one call, where k nets went on; ms are single adds of these and of the one after them, if there is one
module _ (s t : Session) (ns : List Net) (k : ℕ) (r : Option Refusal) (ms : List Made) (one : CallPromise s (add_all ns) (went_on k r) t)
    (each : Chain s ms) (single : calls_of ms ≡ singly (take (k + 1) ns)) where
  when-sound : Sound (session_of s) → session_of (last s ms) ≡ session_of t
  when-sound h =
      let g = call_step (session_of s) (add_all ns) h in
      let answer : (step (session_of s) (add_all ns)).answer ≡ went_on k r = sym (rw g at one.answers) in
      let next : session_of t ≡ (step (session_of s) (add_all ns)).next = rw g at one.next in
      (from_sound s ms h each).session ∙ ap (λ (cs : List Call). after (session_of s) cs) single ∙ tried_next (session_of s) ns k r answer ∙ sym next

  pub as_singly : session_of (last s ms) ≡ session_of t
  as_singly = elim (bool (sound? (session_of s))) [
    | inl e ↦ when-sound ((sound_exact (session_of s)).0 e)
    | inr e ↦ unsound_chain s ms e each ∙ sym (one.next ∙ unsound_same (session_of s) (add_all ns) e)
  ]

  pub routed-as-singly : (before : List ℕ) (x y : RouteAnswer) (after after' : List ℕ)
      → (Meets t (routed before x after) → Meets (last s ms) (routed before y after') → RefusedAlike x y)
      × (Meets t (routed_bytes before x after) → Meets (last s ms) (routed_bytes before y after') → RefusedAlike x y)
  routed-as-singly before x y after after' = (
    λ m n. alike (refuses (session_of t) m) (refuses (session_of t) (rw as_singly at n)),
    λ m n. alike (refuses_bytes (session_of t) m) (refuses_bytes (session_of t) (rw as_singly at n)),
  )
