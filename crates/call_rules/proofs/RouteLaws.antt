-- What refusals of a routing call go by, and that they are the same for all buffers that are long enough; what is left to refuse one that 20, 31 and
-- 32 let pass; and that a call is refused in one way only, and past 33 never where a routing exists.
-- Assumes nothing.
use Rattle.std.specs.Prelude.{◌≡◌, true, ℕ, ◌≤◌, ◌<◌, length}
use Rattle.std.proofs.Math.Path.{refl}
use Rattle.std.proofs.Common.{ap, sym, ◌∙◌, inl, inr, arith}
use mathlib.Core.List.{List, [], ◌∷◌, head?}
use Rattle.std.proofs.Math.Option.{Option, none, some}
use borrow.Author.Tests.{lt-ltb, le-ltb}
use Rattle.count.specs.TruthLaws.{le_or_lt}
use Rattle.board.specs.declared.Vertex.{Vertex}
use Rattle.board.specs.declared.Direction.{Direction}
use Rattle.cut.specs.Cut.{overfull_cuts}
use Rattle.cut.specs.Odd.{odd_vertices}
use Rattle.cut.specs.declared.Cut.{Cut}
use Rattle.cut.specs.declared.Cut.TheVariants.{Row, Column}
use Rattle.routing_rules.specs.Routing.{Routing}
use Rattle.session_rules.specs.Refusal.{Refusal, refusal}
use Rattle.session_rules.specs.Session.{Session, pairs}
use Rattle.session_rules.specs.Sound.{sound?}
use Rattle.call_rules.specs.Route.{
  route_room,
  odd_limit,
  too_many,
  odd_refusal,
  overfull_refusal,
  or_else,
  odd_refused,
  overfull_refused,
  route_refused,
  WhyRefused,
  by_line,
  none_exists,
}

-- beside soundness, 31 to 33 go by the board and the nets alone: not by taken pins (02, §8) nor by the book (§9)
pub same_refused : (s t : Session) (room : ℕ) → sound? s ≡ sound? t → s.block.board ≡ t.block.board → s.nets ≡ t.nets
    → route_refused s room ≡ route_refused t room
unfolding route_refused
same_refused s t room e b n = rw (e, b, n) refl

-- 31 apart, refusals do not go by the buffer: one that is long enough is as good as any other
pub same_room : (s : Session) (n m : ℕ) → route_room s ≤ n → route_room s ≤ m → route_refused s n ≡ route_refused s m
unfolding route_refused
same_room s n m h k = rw (le-ltb n (route_room s) h, le-ltb m (route_room s) k) refl

pub same_why : (s : Session) (n m : ℕ) → route_refused s n ≡ route_refused s m → {q : Refusal} → WhyRefused s n q → WhyRefused s m q
same_why s n m f (by_line e) = by_line (sym f ∙ e)
same_why s n m f (none_exists e h) = none_exists (sym f ∙ e) h

-- and 31 comes where it is not
pub short_31 : (s : Session) (n : ℕ) → sound? s ≡ true → n < route_room s → route_refused s n ≡ some (refusal 31 0)
unfolding route_refused
short_31 s n e h = rw (e, lt-ltb n (route_room s) h) refl

-- only there: 32, 33 and 34 are other numbers
not_31 : (o : Option Vertex) (x : Option Cut) → or_else (odd_refused o) (overfull_refused x) ≡ some (refusal 31 0) → ⊥
not_31 (some v) x e = let f : odd_refusal v ≡ refusal 31 0 = cc in omega (arith, ap (λ (r : Refusal). r.number) f)
not_31 none (some (Row i)) e = let f : overfull_refusal (Row i) ≡ refusal 31 0 = cc in omega (arith, ap (λ (r : Refusal). r.number) f)
not_31 none (some (Column j)) e = let f : overfull_refusal (Column j) ≡ refusal 31 0 = cc in omega (arith, ap (λ (r : Refusal). r.number) f)
not_31 none none e = let z : ◌≡◌ {A = ℕ} 0 1 = cc in omega arith

line_31 : (s : Session) (n : ℕ) → sound? s ≡ true → route_room s ≤ n → route_refused s n ≡ some (refusal 31 0) → ⊥
unfolding route_refused
line_31 s n e h f =
    not_31 (head? (too_many (odd_vertices s.block.board (pairs s.nets)))) (head? (overfull_cuts s.block.board (pairs s.nets)))
    (rw (e, le-ltb n (route_room s) h) at f)

pub why_31 : (s : Session) (n : ℕ) → sound? s ≡ true → {q : Refusal} → WhyRefused s n q → q ≡ refusal 31 0 → n < route_room s
why_31 s n e (by_line f) g = elim (le_or_lt (route_room s) n) [
  | inl h ↦ absurd (line_31 s n e h (f ∙ ap some g))
  | inr h ↦ h
]
why_31 s n e (none_exists f h) g = absurd (omega (arith, ap (λ (r : Refusal). r.number) g))

pub some_none : (q : Refusal) → some q ≡ none → ⊥
some_none q e = let z : ◌≡◌ {A = ℕ} 0 1 = cc in omega arith

-- ── past 20, 31 and 32 ──
module _ (s : Session) (room : ℕ) (sound : sound? s ≡ true) (long : route_room s ≤ room)
    (few : length (odd_vertices s.block.board (pairs s.nets)) ≤ odd_limit) where
  -- of what is counted, only an overfull cut is left
  pub left : route_refused s room ≡ overfull_refused (head? (overfull_cuts s.block.board (pairs s.nets)))
  unfolding route_refused
  left = rw (sound, le-ltb room (route_room s) long, le-ltb odd_limit (length (odd_vertices s.block.board (pairs s.nets))) few) refl

  pub passed : overfull_cuts s.block.board (pairs s.nets) ≡ [] → route_refused s room ≡ none
  passed e = left ∙ rw e refl

  pub passed-roomy : route_refused s room ≡ none → overfull_cuts s.block.board (pairs s.nets) ≡ []
  passed-roomy e = go (overfull_cuts s.block.board (pairs s.nets)) (sym left ∙ e)
    where
      go : (xs : List Cut) → overfull_refused (head? xs) ≡ none → xs ≡ []
      go [] f = refl
      go (x ∷ xs) f = absurd (some_none (overfull_refusal x) f)

  pub refused-cut : (r : Refusal) → route_refused s room ≡ some r
      → (x : Cut) × (head? (overfull_cuts s.block.board (pairs s.nets)) ≡ some x) × (r ≡ overfull_refusal x)
  refused-cut r e = go (head? (overfull_cuts s.block.board (pairs s.nets))) (sym left ∙ e)
    where
      go : (o : Option Cut) → overfull_refused o ≡ some r → (x : Cut) × (o ≡ some x) × (r ≡ overfull_refusal x)
      go none f = absurd (some_none r (sym f))
      go (some x) f = (x, refl, cc)

-- ── one refusal, and past 33 none where a routing exists ──
pub same_refusal : (s : Session) (room : ℕ) {q r : Refusal} → WhyRefused s room q → WhyRefused s room r → q ≡ r
same_refusal s room (by_line {r = q} e) (by_line {r} f) = let g : some q ≡ some r = sym e ∙ f in cc
same_refusal s room (by_line {r = q} e) (none_exists f h) = absurd (some_none q (sym e ∙ f))
same_refusal s room (none_exists f h) (by_line {r} e) = absurd (some_none r (sym e ∙ f))
same_refusal s room (none_exists e h) (none_exists f k) = refl

pub not_given : (s : Session) (room : ℕ) {q : Refusal} → WhyRefused s room q → route_refused s room ≡ none → (paths : List (List Direction))
    → Routing s.block.board (pairs s.nets) paths → ⊥
not_given s room (by_line {r = q} e) f paths R = some_none q (sym e ∙ f)
not_given s room (none_exists e h) f paths R = h paths R
