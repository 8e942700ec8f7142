-- Each answer of `route` is the one that the definition gives.
-- Assumes what the searches answer; that what the search for helper pairs answers is right rests on the theorem for odd boards.
use Rattle.std.specs.Prelude.{◌≡◌, refl, true, false, ℕ, ◌≤◌, ◌<◌, length, Option, None, Some, Err}
use Rattle.std.specs.Prelude.{MatchResult}
use Rattle.std.specs.Option.{ok_or}
use Rattle.std.proofs.Common.{ap, ◌∙◌, arith}
use mathlib.Core.List.{List, [], head?}
use Rattle.std.proofs.Math.Option.{some}
use borrow.Author.Tests.{lt-ltb, le-ltb}
use Rattle.count.specs.Lists.{head-none}
use Rattle.board.specs.declared.Vertex.{Vertex}
use Rattle.net.specs.declared.Pair.{Pair}
use Rattle.cut.specs.Cut.{overfull_cuts}
use Rattle.cut.specs.Odd.{odd_vertices}
use Rattle.cut_search.specs.Found.{found_cut, found_vertex}
use Rattle.cut_search.specs.Laws.{found_some, found_none, vertex_some, vertex_none}
use Rattle.cut.specs.declared.Cut.{Cut}
use Rattle.session_rules.specs.Refusal.{refusal}
use Rattle.session_rules.specs.Session.{Session, pairs}
use Rattle.session_rules.specs.Sound.{sound?}
use Rattle.session_laws.proofs.Exact.{sound_exact}
use Rattle.call_rules.specs.Result.{no, yes}
use Rattle.call_rules.specs.Route.{
  route_room,
  odd_limit,
  odd_refusal,
  overfull_refusal,
  overfull_refused,
  route_refused,
  NoRouting,
  by_line,
  none_exists,
  HandsBack,
  Routes,
  refused,
  given,
}
use Rattle.call_rules.proofs.RouteLaws.{short_31, left, passed}
use Rattle.corner.proofs.Paths.{routing_routable}
use Rattle.pairing_search.specs.View.{no_odds, Few, Collects, Helps}
use Rattle.pairing_search.specs.Collect.{few_none}
use Rattle.pairing_search.specs.Answer.{answer-helpers, answer-none}
use Rattle.pairing_search.specs.declared.Odds.{Odds}
use Rattle.pairing_search.specs.declared.HelperPairs.{HelperPairs}
use Rattle.route_call.specs.Answers.{FirstOddKnown, ManyOdd, OddsKnown, Roomy, Helped, route_answer}
use Rattle.route_call.specs.declared.RouteRefusal.{RouteRefusal}
use Rattle.route_call.specs.declared.RouteRefusal.TheVariants as why
use Rattle.route_call.specs.Sessions.{problem_of}

module _ (s : Session) (before : List ℕ) where
  pub route-unsound : sound? s ≡ false → Routes s before (no (refusal 20 0)) before
  unfolding route_refused
  route-unsound e = refused {r = refusal 20 0} (by_line {r = refusal 20 0} (rw e refl))

  pub route-short : sound? s ≡ true → length before < route_room s → Routes s before (no (refusal 31 0)) before
  route-short e h = refused {r = refusal 31 0} (by_line {r = refusal 31 0} (short_31 s (length before) e h))

  -- v is the first of too many
  pub route-odd : (e : RouteRefusal) → ManyOdd s e → route_room s ≤ length before → Routes s before (route_answer (Err e)) before
  unfolding route_refused
  route-odd e M h = let v = M.v in let F = M.first_odd in rw M.named (refused {r = odd_refusal v} (by_line {r = odd_refusal v}
      (rw (F.sound, le-ltb (length before) (route_room s) h, lt-ltb odd_limit (length (odd_vertices s.block.board (pairs s.nets))) M.many, F.first)
      refl)))

  module _ (odds : Odds) (F : OddsKnown s odds) (h : route_room s ≤ length before) where
    few : length (odd_vertices s.block.board (pairs s.nets)) ≤ odd_limit
    few = omega (arith, F.few.most, F.few.count)

    pub route-overfull : (x : Cut) → head? (overfull_cuts s.block.board (pairs s.nets)) ≡ some x
        → Routes s before (no (overfull_refusal x)) before
    route-overfull x f = refused {r = overfull_refusal x}
        (by_line {r = overfull_refusal x} (left s (length before) F.sound h few ∙ ap overfull_refused f))

    pub route-given : Roomy s → {after : List ℕ} {count : ℕ} → HandsBack s before after count → Routes s before (yes count) after
    route-given R H = given (passed s (length before) F.sound h few R) H

    pub route-none : Roomy s → NoRouting s → Routes s before (no (refusal 34 0)) before
    route-none R n = refused {r = refusal 34 0} (none_exists (passed s (length before) F.sound h few R) n)

-- ── the helper pairs that were found, or not ──
module _ (s : Session) (sound : sound? s ≡ true) where
  pub found-helped : (r : HelperPairs) → Helps s.block.board (pairs s.nets) (Some r) → Helped s r
  found-helped r H = let k = answer-helpers s.block.board (pairs s.nets) (problem_of s ((sound_exact s).0 sound)) r H in
      record { sound = sound; most = H.few; long = H.long; helpers = k.0; roomy = k.1 }

  pub found-none-exists : Helps s.block.board (pairs s.nets) None → NoRouting s
  found-none-exists H paths R =
      answer-none s.block.board (pairs s.nets) (problem_of s ((sound_exact s).0 sound)) H
      (routing_routable s.block.board (pairs s.nets) paths R)

-- where no vertex is odd there are few
pub even_few : (s : Session) → sound? s ≡ true → odd_vertices s.block.board (pairs s.nets) ≡ [] → (o : Odds) → o ≡ no_odds → OddsKnown s o
even_few s sound e o f = record { sound = sound; few = rw (e, f) few_none }

-- where v is the first odd vertex there are few, or v is named
pub odd_named : (s : Session) (v : Vertex) → FirstOddKnown s v → (r : Option Odds) → Collects (odd_vertices s.block.board (pairs s.nets)) r
    → MatchResult (ok_or r (why.Odd v)) (λ odds. OddsKnown s odds) (λ e. ManyOdd s e)
odd_named s v F None C = record { v = v; named = refl; first_odd = F; many = C.many refl }
odd_named s v F (Some odds) C = record { sound = F.sound; few = C.few odds refl }

-- ── what the searches ask and answer, of the session's own list of pairs ──
module _ (s : Session) (ps : List Pair) (same : pairs s.nets ≡ ps) where
  pub few-of : (o : Odds) → Few (odd_vertices s.block.board (pairs s.nets)) o → Few (odd_vertices s.block.board ps) o
  few-of o F = rw same at F

  pub collects-of : (o : Option Odds) → Collects (odd_vertices s.block.board ps) o → Collects (odd_vertices s.block.board (pairs s.nets)) o
  collects-of o C = rw same C

  pub roomy_of : Roomy s → overfull_cuts s.block.board ps ≡ []
  roomy_of R = rw same at R

  pub helps-of : (r : Option HelperPairs) → Helps s.block.board ps r → Helps s.block.board (pairs s.nets) r
  helps-of r H = rw same H

  pub odd-at : (v : Vertex) → Some v ≡ found_vertex (head? (odd_vertices s.block.board ps))
      → head? (odd_vertices s.block.board (pairs s.nets)) ≡ some v
  odd-at v e = rw same (vertex_some _ v e)

  pub none_odd : None ≡ found_vertex (head? (odd_vertices s.block.board ps))
      → odd_vertices s.block.board (pairs s.nets) ≡ []
  none_odd e = rw same ((head-none (odd_vertices s.block.board ps)).0 (vertex_none _ e))

  pub overfull-at : (x : Cut) → Some x ≡ found_cut (head? (overfull_cuts s.block.board ps))
      → head? (overfull_cuts s.block.board (pairs s.nets)) ≡ some x
  overfull-at x e = rw same (found_some _ x e)

  pub none_overfull : None ≡ found_cut (head? (overfull_cuts s.block.board ps))
      → overfull_cuts s.block.board (pairs s.nets) ≡ []
  none_overfull e = rw same ((head-none (overfull_cuts s.block.board ps)).0 (found_none _ e))
