-- Definitions only: the count, or number and place, of documents 01 and 02 for each answer of `route`; and what is known of a session on the way.
-- Nothing is proved here.
use Rattle.std.specs.Prelude as prelude
use Rattle.std.specs.Prelude.{◌≡◌, true, ℕ, ◌≤◌, ◌<◌, length, take, Ok, Err}
use mathlib.Core.List.{[], ◌++◌, head?}
use Rattle.std.proofs.Math.Option.{some}
use Rattle.board.specs.declared.Vertex.{Vertex}
use Rattle.cut.specs.Cut.{overfull_cuts}
use Rattle.cut.specs.Odd.{odd_vertices}
use Rattle.session_rules.specs.Refusal.{Refusal, refusal}
use Rattle.session_rules.specs.Session.{Session, pairs}
use Rattle.session_rules.specs.Sound.{sound?}
use Rattle.call_rules.specs.Result.{Result, no, yes}
use Rattle.call_rules.specs.Route.{odd_limit, odd_refusal, overfull_refusal}
use Rattle.corner.specs.Problem.{Helpers}
use Rattle.pairing_search.specs.View.{Few}
use Rattle.pairing_search.specs.declared.Odds.{Odds}
use Rattle.pairing_search.specs.declared.HelperPairs.{HelperPairs}
use Rattle.route_call.specs.declared.RouteRefusal.{RouteRefusal}
use Rattle.route_call.specs.declared.RouteRefusal.TheVariants as why

-- what the calls answer: how many words were written, or why none were
abbrev pub RouteAnswer : Type 0
RouteAnswer = prelude.Result ℕ RouteRefusal

abbrev pub refused_as : RouteRefusal → Refusal
refused_as why.Unsound = refusal 20 0
refused_as why.ShortBuffer = refusal 31 0
refused_as (why.Odd v) = odd_refusal v
refused_as (why.Overfull x) = overfull_refusal x
refused_as why.NoRouting = refusal 34 0

abbrev pub route_answer : RouteAnswer → Result ℕ
route_answer (Ok n) = yes n
route_answer (Err e) = no (refused_as e)

-- a sound session whose first odd vertex is v
pub record FirstOddKnown (s : Session) (v : Vertex) : Type 0 where
  pub sound : sound? s ≡ true
  pub first : head? (odd_vertices s.block.board (pairs s.nets)) ≡ some v

-- the refusal names the first of more than 12
pub record ManyOdd (s : Session) (e : RouteRefusal) : Type 0 where
  pub v : Vertex
  pub named : e ≡ why.Odd v
  pub first_odd : FirstOddKnown s v
  pub many : odd_limit < length (odd_vertices s.block.board (pairs s.nets))

-- a sound session with these odd vertices, at most 12
pub record OddsKnown (s : Session) (odds : Odds) : Type 0 where
  pub sound : sound? s ≡ true
  pub few : Few (odd_vertices s.block.board (pairs s.nets)) odds

-- no cut is overfull
abbrev pub Roomy : Session → Type 0
Roomy s = overfull_cuts s.block.board (pairs s.nets) ≡ []

-- a sound session and helper pairs for its odd vertices, with which no cut is overfull
pub record Helped (s : Session) (r : HelperPairs) : Type 0 where
  pub sound : sound? s ≡ true
  pub most : r.count ≤ 6
  pub long : length r.pairs ≡ 6
  pub helpers : Helpers s.block.board (pairs s.nets) (take r.count r.pairs)
  pub roomy : overfull_cuts s.block.board (take r.count r.pairs ++ pairs s.nets) ≡ []
