-- The answer for a board, from what its nets leave at the cuts and its odd vertices.
-- Assumes that no cut is overfull and at most 12 vertices are odd; for what it says of routings, a problem on a convex board.
use Rattle.std.specs.Prelude as prelude
use Rattle.std.specs.Prelude.{◌≡◌, refl, ℕ, ◌+◌, ◌≤◌, take, IfSome, None, Some}
use Rattle.std.proofs.Math.Path.{ap, sym}
use Rattle.std.proofs.Common.{◌∙◌, arith}
use mathlib.Core.List.{List, [], ◌++◌}
use Rattle.std.proofs.Math.Option.{some}
use Rattle.board.specs.Board.{Board}
use Rattle.board.specs.declared.Vertex.{Vertex}
use Rattle.net.specs.declared.Pair.{Pair}
use Rattle.cut.specs.Cut.{overfull_cuts}
use Rattle.cut.specs.Odd.{odd_vertices}
use Rattle.routing_rules.specs.Routing.{Routable}
use Rattle.corner.specs.Problem.{Problem, Helpers}
use Rattle.pairing.specs.Search.{pair_up, helpers}
use Rattle.pairing.proofs.Test.{open_exact}
use Rattle.pairing.proofs.Exact.{helpers-open, helpers-found, routable-some}
use Rattle.pairing_search.specs.View.{Left, pairs_found, found_of, Pairs, Few, Helps}
use Rattle.pairing_search.specs.declared.HelperPairs.{HelperPairs}
use Rattle.pairing_search.specs.declared.Odds.{Odds}

module _ (b : Board) (ps : List Pair) (roomy : overfull_cuts b ps ≡ []) (o : Odds) (F : Few (odd_vertices b ps) o) where
  searched : (m : ℕ) (a : List ℕ) → Left b ps m a → (r : prelude.Option HelperPairs) → Pairs o.count o.list m a r → pairs_found r ≡ helpers b ps
  searched m a L r P = P.exact b ps L ∙ rw (F.list, F.count) refl ∙ sym (helpers-open b ps ((open_exact b ps).1 roomy))

  few : (r : prelude.Option HelperPairs) → IfSome r (λ h. h.count + h.count ≤ o.count) → IfSome r (λ h. h.count ≤ 6)
  few None f = f
  few (Some h) f = omega (arith, F.most)

  pub helps-found : (m : ℕ) (a : List ℕ) → Left b ps m a → (r : prelude.Option HelperPairs) → Pairs o.count o.list m a r → Helps b ps r
  helps-found m a L r P = record {
    few = few r P.few;
    long = P.long;
    exact = searched m a L r P;
    whole = P.whole ∙ ap found_of (searched m a L r P);
  }

  -- with no odd vertex no pairs are needed
  pub helps-none : o.count ≡ 0 → Helps b ps (found_of (some []))
  unfolding pair_up
  helps-none z =
      let unneeded : some [] ≡ helpers b ps = sym (helpers-open b ps ((open_exact b ps).1 roomy) ∙ rw (← F.count, z) refl) in
      record { few = omega arith; long = refl; exact = unneeded; whole = ap found_of unneeded }

-- what the answer says
module _ (b : Board) {p : Vertex → ℕ} (ps : List Pair) (P : Problem b p ps) where
  pub answer-helpers : (h : HelperPairs) → Helps b ps (Some h)
      → Helpers b ps (take h.count h.pairs) × (overfull_cuts b (take h.count h.pairs ++ ps) ≡ [])
  answer-helpers h H = helpers-found b ps P.within (take h.count h.pairs) (sym H.exact)

  pub answer-none : Helps b ps None → Routable b ps → ⊥
  answer-none H R = let q = H.exact ∙ ((routable-some b ps P).0 R).1 in absurd (cc)
