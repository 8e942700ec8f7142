-- Demand 3 for routing calls: wherever one is made in a list of calls, and at most 12 vertices are odd then, a routing is handed back exactly when
-- there is one; otherwise the first overfull cut is named, or 34 given where there is none. Where no vertex is odd, 34 never comes (`rightly-even`).
-- It holds of calls with as many words as the session's word limit or more (document 02, §11), and so of calls with 2,049 (`demand_3_before`).
-- Assumes of each call only its promise.
use Rattle.std.specs.Prelude.{◌≡◌, refl, List, [], ℕ, ◌/◌, ◌≤◌, length}
use Rattle.std.proofs.Common.{ap, sym, ◌∙◌, inl, inr, arith}
use Rattle.std.proofs.Math.Option.{none, some}
use Rattle.count.specs.Lists.{head-none}
use Rattle.cut.specs.Cut.{overfull_cuts}
use Rattle.cut.specs.Odd.{odd_vertices}
use Rattle.cut.specs.First.{no-odd, no-overfull, first-overfull}
use Rattle.cut.specs.declared.Cut.{Cut}
use Rattle.cut.specs.declared.Cut.TheVariants.{Row, Column}
use Rattle.routing_rules.specs.Routing.{Routable}
use Rattle.corner.proofs.Paths.{routing_routable, tidied}
use Rattle.corner.proofs.Theorem.{needed_cuts, routable}
use Rattle.session_rules.specs.Refusal.{Refusal, refusal}
use Rattle.session_rules.specs.Session.{Session, with_nets, with_names, pairs}
use Rattle.session_rules.specs.Machine.{after}
use Rattle.session_rules.specs.Sound.{Sound, Fresh, bare}
use Rattle.session_laws.proofs.Exact.{sound_exact}
use Rattle.session.specs.declared.Session as code
use Rattle.session.specs.View.{session_of}
use Rattle.call_rules.specs.Result.{Result, no, yes}
use Rattle.call_rules.specs.Shape.{routing_limit}
use Rattle.call_rules.specs.Route.{
  route_room,
  overfull_refusal,
  WhyRefused,
  by_line,
  none_exists,
  HandsBack,
  HandsBackBytes,
  Routes,
  RoutesBytes,
  refused,
  given,
}
use Rattle.call_rules.proofs.RouteLaws.{passed-roomy, refused-cut}
use Rattle.route_call.specs.Sessions.{problem_of}
use Rattle.route_call.specs.Room.{room_most}
use Rattle.session_history.specs.Made.{Made, changed, routed, routed_bytes, Meets, Chain}
use Rattle.session_history.specs.Demand.{FewOdd, NoCutOverfull, Rightly, RoutedRightly, Concerns}
use Rattle.session_history.specs.Demand.{AllEven, RightlyEven, RoutedEven, RightlyBoth, Demand3With, Demand3, Demand3Before}
use Rattle.session_history.proofs.History.{as_the_machine, everywhere}

-- ── one routing call ──
no_yes : {A : Type 0} (r : Refusal) (a : A) → no r ≡ yes a → ⊥
no_yes r a e = let z : ◌≡◌ {A = ℕ} 0 1 = cc in omega arith

module _ (m : Session) (S : Sound m) (few : FewOdd m) {room : ℕ} (long : route_room m ≤ room) where
  refused-rightly : {r : Refusal} → WhyRefused m room r → (HandedBack : ℕ → Type 0) → Rightly m (no r) HandedBack
  refused-rightly (by_line {r} e) H =
      let (x, f, g) = refused-cut m room ((sound_exact m).1 S) long few r e in record {
        exactly = (
          λ k. absurd (no_yes r k.0 k.1),
          λ R. absurd (let q : none ≡ some x = sym ((head-none (overfull_cuts m.block.board (pairs m.nets))).1
              (needed_cuts m.block.board (pairs m.nets) S.within R)) ∙ f in let z : ◌≡◌ {A = ℕ} 0 1 = cc in omega arith),
        );
        named = λ n. inl (x, ap no g, (first-overfull m.block.board (pairs m.nets) x).0 f);
      }
  refused-rightly (none_exists e n) H = record {
    exactly = (
      λ k. absurd (no_yes (refusal 34 0) k.0 k.1),
      λ R. absurd (let t = tidied m.block.board (pairs m.nets) R in n t.0 t.1),
    );
    named = λ j. inr (refl, (no-overfull m.block.board (pairs m.nets)).0 (passed-roomy m room ((sound_exact m).1 S) long few e));
  }

  given-rightly : (n : ℕ) → Routable m.block.board (pairs m.nets) → (HandedBack : ℕ → Type 0) → HandedBack n → Rightly m (yes n) HandedBack
  given-rightly n R H k = record { exactly = (λ j. R, λ j. (n, refl, k)); named = λ j. absurd (j R) }

words_rightly : (m : Session) → Sound m → FewOdd m → {before after : List ℕ} {a : Result ℕ} → route_room m ≤ length before → Routes m before a after
    → Rightly m a (HandsBack m before after)
words_rightly m S few long (refused e) = refused-rightly m S few long e (HandsBack m _ _)
words_rightly m S few long (given {after} {count} e H) = given-rightly m S few long count
    (routing_routable m.block.board (pairs m.nets) H.paths H.routing) (HandsBack m _ after) H

bytes_rightly : (m : Session) → Sound m → FewOdd m → {before after : List ℕ} {a : Result ℕ} → route_room m ≤ length before / 4
    → RoutesBytes m before a after
    → Rightly m a (HandsBackBytes m before after)
bytes_rightly m S few long (refused e) = refused-rightly m S few long e (HandsBackBytes m _ _)
bytes_rightly m S few long (given {after} {count} e H) = given-rightly m S few long count
    (routing_routable m.block.board (pairs m.nets) H.paths H.routing) (HandsBackBytes m _ after) H

-- ── where no vertex is odd ──
module _ (m : Session) (S : Sound m) (E : AllEven m) where
  even : odd_vertices m.block.board (pairs m.nets) ≡ []
  even = (no-odd m.block.board (pairs m.nets) S.within).1 E

  even_few : FewOdd m
  even_few = rw even (omega arith)

  -- the theorem of document 004: paths exist where no cut is overfull
  roomy-routable : NoCutOverfull m → Routable m.block.board (pairs m.nets)
  roomy-routable n =
      (routable m.block.board (pairs m.nets) (problem_of m S) even).1 ((no-overfull m.block.board (pairs m.nets)).1 n)

  pub rightly-even : (answer : Result ℕ) (HandedBack : ℕ → Type 0) → Rightly m answer HandedBack → RightlyEven m answer HandedBack
  rightly-even answer H R = record {
    exactly = R.exactly;
    named = λ n. elim (R.named n) [
      | inl c ↦ c
      | inr c ↦ absurd (n (roomy-routable c.1))
    ];
    never = λ e.
        let n : Routable m.block.board (pairs m.nets) → ⊥ = λ P.
        let k = R.exactly.1 P in no_yes (refusal 34 0) k.0 (sym e ∙ k.1) in
        elim (R.named n) [
          | inl c ↦ cut-34 c.0 (sym c.1 ∙ e)
          | inr c ↦ n (roomy-routable c.1)
        ];
  }
    where
      cut-34 : (x : Cut) → ◌≡◌ {A = Result ℕ} (no (overfull_refusal x)) (no (refusal 34 0)) → ⊥
      cut-34 (Row i) q = let e : overfull_refusal (Row i) ≡ refusal 34 0 = cc in omega (arith, ap (λ (r : Refusal). r.number) e)
      cut-34 (Column j) q = let e : overfull_refusal (Column j) ≡ refusal 34 0 = cc in omega (arith, ap (λ (r : Refusal). r.number) e)

-- ── a call on any sound session ──
pub words_both : (m : Session) → Sound m → {before after : List ℕ} {a : Result ℕ} → route_room m ≤ length before → Routes m before a after
    → RightlyBoth m a (HandsBack m before after)
words_both m S long R = record {
  few_odd = λ few. words_rightly m S few long R;
  all_even = λ E. rightly-even m S E _ _ (words_rightly m S (even_few m S E) long R);
}

pub bytes_both : (m : Session) → Sound m → {before after : List ℕ} {a : Result ℕ} → route_room m ≤ length before / 4 → RoutesBytes m before a after
    → RightlyBoth m a (HandsBackBytes m before after)
bytes_both m S long R = record {
  few_odd = λ few. bytes_rightly m S few long R;
  all_even = λ E. rightly-even m S E _ _ (bytes_rightly m S (even_few m S E) long R);
}

-- ── wherever a call is made, with a buffer that is long enough ──
-- DEFINITION: who has so many words has as many as routing asks for
abbrev Enough : (room : Session → ℕ) → Type 0
Enough room = (m : Session) → Sound m → route_room m ≤ room m

module _ (room : Session → ℕ) (enough : Enough room) where
  each : (s : code.Session) (m : Made) → Sound (session_of s) → Meets s m → RoutedRightly room (session_of s) m
  each s (routed before r after) S k = λ long. (words_both (session_of s) S (omega (arith, enough (session_of s) S)) k).few_odd
  each s (routed_bytes before r after) S k = λ long. (bytes_both (session_of s) S (omega (arith, enough (session_of s) S)) k).few_odd
  each s (changed c a t) S k = tt

  each-even : (s : code.Session) (m : Made) → Sound (session_of s) → Meets s m → RoutedEven room (session_of s) m
  each-even s (routed before r after) S k = λ long. (words_both (session_of s) S (omega (arith, enough (session_of s) S)) k).all_even
  each-even s (routed_bytes before r after) S k = λ long. (bytes_both (session_of s) S (omega (arith, enough (session_of s) S)) k).all_even
  each-even s (changed c a t) S k = tt

each_concerns : (s : code.Session) (m : Made) → Sound (session_of s) → Meets s m → Concerns (session_of s) m
each_concerns s (routed before r after) S k = k
each_concerns s (routed_bytes before r after) S k = k
each_concerns s (changed c a t) S k = tt

-- ── demand 3 ──
-- a fresh session is the machine's start
fresh_bare : (m : Session) → Fresh m → m ≡ bare m.block
fresh_bare m F = λ i. with_names (with_nets m (F.no-nets i) (F.no_pile i)) (F.none_kept i)

with_room : (room : Session → ℕ) → Enough room → (s : code.Session) (ms : List Made) → Fresh (session_of s) → Chain s ms → Demand3With room s ms
with_room room enough s ms F k =
    let e = fresh_bare (session_of s) F in let h = as_the_machine s ms F k in record {
      session = rw (← e) h.session;
      answered = rw (← e) h.answer;
      concerned = rw (← e) (everywhere Concerns each_concerns s ms F.sound k);
      routings = rw (← e) (everywhere (RoutedRightly room) (each room enough) s ms F.sound k);
      even_routings = rw (← e) (everywhere (RoutedEven room) (each-even room enough) s ms F.sound k);
    }

pub demand_3 : (s : code.Session) (ms : List Made) → Fresh (session_of s) → Chain s ms → Demand3 s ms
demand_3 = with_room route_room (λ m S. omega arith)

-- "with 2,049 words or more": no session asks for more
pub demand_3_before : (s : code.Session) (ms : List Made) → Fresh (session_of s) → Chain s ms → Demand3Before s ms
demand_3_before = with_room (λ m. routing_limit) room_most
