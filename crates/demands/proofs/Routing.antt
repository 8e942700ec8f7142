-- What a routing call shows by its promise, to a caller and to C.
-- Assumes nothing but the promise.
use Rattle.std.specs.Prelude.{◌≡◌, refl, List, ◌↔◌, ℕ, ◌/◌, ◌≤◌, ◌<◌, length}
use Rattle.std.proofs.Common.{ap, sym, ◌∙◌, subst, arith}
use Rattle.std.proofs.Math.Option.{none, some}
use Rattle.routing_rules.specs.Routing.{Routable}
use Rattle.corner.proofs.Paths.{routing_routable, tidied}
use Rattle.session_rules.specs.Refusal.{Refusal, refusal}
use Rattle.session_rules.specs.Session as machine
use Rattle.session_rules.specs.Session.{pairs}
use Rattle.session_rules.specs.Sound.{Sound}
use Rattle.session_laws.proofs.Exact.{sound_exact}
use Rattle.call_rules.specs.Result.{Result, no, yes}
use Rattle.call_rules.specs.Reading.{read_bytes}
use Rattle.call_rules.specs.Route.{
  route_room,
  route_refused,
  WhyRefused,
  by_line,
  none_exists,
  HandsBack,
  HandsBackBytes,
  Routes,
  RoutesBytes,
  refused,
  given,
}
use Rattle.call_rules.proofs.RouteLaws.{some_none, short_31, why_31, same_refusal}
use Rattle.call_rules.specs.Editor.{EditorRoutes, unread, read}
use Rattle.cidrask_told.specs.Told.{tell, refused_told, count_told}
use Rattle.cidrask_told.specs.declared.Told.{Told}
use Rattle.board_roundtrip.specs.RoundTrip.{read_bytes_sound}
use Rattle.session_history.specs.Demand.{RightlyBoth}
use Rattle.session_history.proofs.Routing as history
use Rattle.demands.specs.Demands.{Decided}

-- ── a routing call, by what the definition refuses ──
-- `told` gives the numbers by which an answer is told, or the answer itself; those of a routing are not those of 34
module _ {T : Type 0} (told : Result ℕ → T) (differ : (n : ℕ) → told (yes n) ≡ told (no (refusal 34 0)) → ⊥) (s : machine.Session) (room : ℕ) where
  -- DEFINITION: what is shown of an answer, where HandedBack n says that a routing of n words was handed back
  abbrev Shown : Result ℕ → (Same : Type 0) (HandedBack : ℕ → Type 0) → Type 0
  Shown a Same HandedBack =
      ((q : Refusal) → route_refused s room ≡ some q → (told a ≡ told (no q)) × Same)
      × (route_refused s room ≡ none
      → Decided s (λ n. (told a ≡ told (yes n)) × HandedBack n) ((told a ≡ told (no (refusal 34 0))) × Same))

  module _ (Same : Type 0) (HandedBack : ℕ → Type 0) (joined : (n : ℕ) → HandedBack n → Routable s.block.board (pairs s.nets)) where
    shown-refused : {r : Refusal} → WhyRefused s room r → Same → Shown (no r) Same HandedBack
    shown-refused (by_line {r} e) same = (
      λ q f. (ap (λ (p : Refusal). told (no p)) (let g : some r ≡ some q = sym e ∙ f in cc), same),
      λ f. absurd (let g : some r ≡ none = sym e ∙ f in let z : ◌≡◌ {A = ℕ} 0 1 = cc in omega arith),
    )
    shown-refused (none_exists e none_is) same =
        let n : Routable s.block.board (pairs s.nets) → ⊥ = λ k.
        let t = tidied s.block.board (pairs s.nets) k in none_is t.0 t.1 in (
          λ q f. absurd (let g : none ≡ some q = sym e ∙ f in let z : ◌≡◌ {A = ℕ} 0 1 = cc in omega arith),
          λ f. record {
            given = (λ k. absurd (n (joined k.0 k.1.1)), λ k. absurd (n k));
            refused = (λ k. n, λ k. (refl, same));
          },
        )

    shown-given : (n : ℕ) → route_refused s room ≡ none → HandedBack n → Shown (yes n) Same HandedBack
    shown-given n e H = (
      λ q f. absurd (let g : none ≡ some q = sym e ∙ f in let z : ◌≡◌ {A = ℕ} 0 1 = cc in omega arith),
      λ f. record {
        given = (λ k. joined n H, λ k. (n, (refl, H)));
        refused = (λ k. absurd (differ n k.0), λ k. absurd (k (joined n H)));
      },
    )

  pub words-shown : (before after : List ℕ) (a : Result ℕ) → length before ≡ room → Routes s before a after
      → Shown a (after ≡ before) (HandsBack s before after)
  words-shown before after a l (refused {r} w) = shown-refused (before ≡ before) (HandsBack s before before)
      (λ n H. routing_routable s.block.board (pairs s.nets) H.paths H.routing) (subst (λ (k : ℕ). WhyRefused s k r) l w) refl
  words-shown before after a l (given {count = n} e H) = shown-given (after ≡ before) (HandsBack s before after)
      (λ k G. routing_routable s.block.board (pairs s.nets) G.paths G.routing) n (ap (route_refused s) (sym l) ∙ e) H

  pub bytes-shown : (before after : List ℕ) (a : Result ℕ) → length before / 4 ≡ room → RoutesBytes s before a after
      → Shown a (after ≡ before) (HandsBackBytes s before after)
  bytes-shown before after a l (refused {r} w) = shown-refused (before ≡ before) (HandsBackBytes s before before)
      (λ n H. routing_routable s.block.board (pairs s.nets) H.paths H.routing) (subst (λ (k : ℕ). WhyRefused s k r) l w) refl
  bytes-shown before after a l (given {count = n} e H) = shown-given (after ≡ before) (HandsBackBytes s before after)
      (λ k G. routing_routable s.block.board (pairs s.nets) G.paths G.routing) n (ap (route_refused s) (sym l) ∙ e) H

-- the answer itself
abbrev pub itself : Result ℕ → Result ℕ
itself a = a

pub differ_itself : (n : ℕ) → yes n ≡ no (refusal 34 0) → ⊥
differ_itself n e = let z : ◌≡◌ {A = ℕ} 0 1 = cc in omega arith

-- 31 exactly where the buffer is too short, and then nothing is written
module _ (m : machine.Session) (S : Sound m) where
  abbrev Short : (room : ℕ) → Result ℕ → (Same : Type 0) → Type 0
  Short room a Same = ((a ≡ no (refusal 31 0)) ↔ (room < route_room m)) × (a ≡ no (refusal 31 0) → Same)

  refused-short : (room : ℕ) {r : Refusal} {Same : Type 0} → WhyRefused m room r → Same → Short room (no r) Same
  refused-short room {r} w same = let e = (sound_exact m).1 S in (
    (
      λ f. why_31 m room e w (let g : ◌≡◌ {A = Result ℕ} (no r) (no (refusal 31 0)) = f in cc),
      λ h. ap no (same_refusal m room w (by_line {r = refusal 31 0} (short_31 m room e h))),
    ),
    λ f. same,
  )

  given-short : (room n : ℕ) {Same : Type 0} → route_refused m room ≡ none → Short room (yes n) Same
  given-short room n f = (
    (
      λ g. absurd (let z : ◌≡◌ {A = ℕ} 0 1 = cc in omega arith),
      λ h. absurd (some_none (refusal 31 0) (sym (short_31 m room ((sound_exact m).1 S) h) ∙ f)),
    ),
    λ g. absurd (let z : ◌≡◌ {A = ℕ} 0 1 = cc in omega arith),
  )

  pub words-short : {before after : List ℕ} {a : Result ℕ} → Routes m before a after → Short (length before) a (after ≡ before)
  words-short {before} (refused w) = refused-short (length before) w refl
  words-short {before} (given {count = n} e H) = given-short (length before) n e

  pub bytes-short : {before after : List ℕ} {a : Result ℕ} → RoutesBytes m before a after → Short (length before / 4) a (after ≡ before)
  bytes-short {before} (refused w) = refused-short (length before / 4) w refl
  bytes-short {before} (given {count = n} e H) = given-short (length before / 4) n e

-- and as C is told it
differ_told : (n : ℕ) → tell 0 n 0 0 ≡ tell 34 0 0 0 → ⊥
differ_told n e = let z : ◌≡◌ {A = ℕ} 0 34 = ap (λ (t : Told). t.number) e in omega arith

-- C is told what reading refuses, or what the routing call on the session read answers
pub c_routed : (board before after : List ℕ) (a : Result ℕ) (t : Told) → t ≡ count_told a → EditorRoutes board before a after
    → ((q : Refusal) → read_bytes board ≡ no q → (t ≡ refused_told q) × (after ≡ before))
    × ((s : machine.Session) → read_bytes board ≡ yes s
    → ((q : Refusal) → route_refused s (length before / 4) ≡ some q → (t ≡ refused_told q) × (after ≡ before))
    × (route_refused s (length before / 4) ≡ none
    → Decided s (λ n. (t ≡ tell 0 n 0 0) × HandsBackBytes s before after n) ((t ≡ tell 34 0 0 0) × (after ≡ before))))
c_routed board before after a t f (unread {r} e) = (
  λ q g. let same : r ≡ q = (let h : ◌≡◌ {A = Result machine.Session} (no r) (no q) = sym e ∙ g in cc) in (f ∙ ap refused_told same, refl),
  λ s g. absurd (let h : ◌≡◌ {A = Result machine.Session} (no r) (yes s) = sym e ∙ g in let z : ◌≡◌ {A = ℕ} 0 1 = cc in omega arith),
)
c_routed board before after a t f (read {s = m} e R) = (
  λ q g. absurd (let h : yes m ≡ no q = sym e ∙ g in let z : ◌≡◌ {A = ℕ} 0 1 = cc in omega arith),
  λ s g.
      let same : m ≡ s = (let h : yes m ≡ yes s = sym e ∙ g in cc) in
      rw f (bytes-shown count_told differ_told s (length before / 4) before after a refl
      (subst (λ (x : machine.Session). RoutesBytes x before a after) same R)),
)

-- a session that was read is sound, so the answer told of it is right too
pub c_routed_rightly : (board before after : List ℕ) (a : Result ℕ) (t : Told) → t ≡ count_told a → EditorRoutes board before a after
    → (s : machine.Session) → read_bytes board ≡ yes s → route_room s ≤ length before / 4
    → (x : Result ℕ) × (t ≡ count_told x) × RightlyBoth s x (HandsBackBytes s before after)
c_routed_rightly board before after a t f (unread {r} e) s g long =
    absurd (let h : ◌≡◌ {A = Result machine.Session} (no r) (yes s) = sym e ∙ g in let z : ◌≡◌ {A = ℕ} 0 1 = cc in omega arith)
c_routed_rightly board before after a t f (read {s = m} {answer = x} e R) s g long =
    let same : m ≡ s = (let h : yes m ≡ yes s = sym e ∙ g in cc) in
    (x, f, history.bytes_both s (read_bytes_sound board s g) long (subst (λ (y : machine.Session). RoutesBytes y before x after) same R))
