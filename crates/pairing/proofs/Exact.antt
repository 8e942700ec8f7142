-- The search finds helper pairs exactly where there are any, and so exactly where the nets can be joined.
-- Assumes a problem on a convex board, whose vertices may be odd; for the search alone, a board within the limits.
use Rattle.std.specs.Prelude.{◌≡◌, true, false, List, [], ◌++◌, ◌↔◌, ℕ, length}
use Rattle.std.proofs.Math.Path.{refl}
use Rattle.std.proofs.Common.{sym, ◌∙◌, inl, inr, arith}
use Rattle.std.proofs.Math.Option.{Option, none, some}
use Rattle.count.specs.TruthLaws.{bool}
use Rattle.board.specs.Board.{Board, Within}
use Rattle.board.specs.declared.Vertex.{Vertex}
use Rattle.net.specs.declared.Pair.{Pair}
use Rattle.cut.specs.Cut.{overfull_cuts}
use Rattle.cut.specs.Odd.{odd_vertices}
use Rattle.routing_rules.specs.Routing.{Routable}
use Rattle.corner.specs.Problem.{Problem, Helpers, Paired}
use Rattle.corner.proofs.OddBoards.{odd-routable}
use Rattle.pairing.specs.Search.{open?, pair_up, helpers}
use Rattle.pairing.proofs.Test.{open_exact, open_fewer, crossing_append}
use Rattle.pairing.proofs.Laws.{found, complete}
use Rattle.pairing.proofs.Odds.{matches-helpers, helpers-match}

module _ (b : Board) (ps : List Pair) where
  pub helpers-open : open? b ps ≡ true → helpers b ps ≡ pair_up b (length (odd_vertices b ps)) (odd_vertices b ps) ps
  unfolding helpers
  helpers-open e = rw e refl

  pub helpers-shut : open? b ps ≡ false → helpers b ps ≡ none
  unfolding helpers
  helpers-shut e = rw e refl

  module _ (W : Within b) where
    pub helpers-found : (hs : List Pair) → helpers b ps ≡ some hs → Helpers b ps hs × (overfull_cuts b (hs ++ ps) ≡ [])
    helpers-found hs e = elim (bool (open? b ps)) [
      | inl t ↦
          let r = found b (length (odd_vertices b ps)) (odd_vertices b ps) ps hs refl t (sym (helpers-open t) ∙ e) in
          (matches-helpers b ps W hs r.0, (open_exact b (hs ++ ps)).0 r.1)
      | inr t ↦ absurd (let s = helpers-shut t in let z : ◌≡◌ {A = ℕ} 0 1 = cc in omega arith)
    ]

    pub helpers-complete : Paired b ps → (hs : List Pair) × (helpers b ps ≡ some hs)
    helpers-complete (hs, H, e) =
        let o = (open_exact b (hs ++ ps)).1 e in
        let t = open_fewer b ps (hs ++ ps) (λ x. omega (arith, crossing_append x hs ps)) o in
        let r = complete b (length (odd_vertices b ps)) (odd_vertices b ps) ps hs refl (helpers-match b ps W hs H) o in
        (r.0, helpers-open t ∙ r.1)

    -- helper pairs are found exactly where there are any
    pub helpers-some : ((hs : List Pair) × (helpers b ps ≡ some hs)) ↔ Paired b ps
    helpers-some = (λ (hs, e). let r = helpers-found hs e in (hs, r.0, r.1), helpers-complete)

    pub helpers-none : (helpers b ps ≡ none) ↔ (Paired b ps → ⊥)
    helpers-none = (
      λ e h. let r = helpers-complete h in let s = r.1 in let z : ◌≡◌ {A = ℕ} 0 1 = cc in omega arith,
      λ n. go (helpers b ps) (λ hs e. n (helpers-some.0 (hs, e))),
    )
      where
        go : (o : Option (List Pair)) → ((hs : List Pair) → o ≡ some hs → ⊥) → o ≡ none
        go none h = refl
        go (some hs) h = absurd (h hs refl)

  -- and so the nets can be joined exactly where they are found
  module _ {p : Vertex → ℕ} (P : Problem b p ps) where
    pub routable-some : Routable b ps ↔ ((hs : List Pair) × (helpers b ps ≡ some hs))
    routable-some = (
      λ r. (helpers-some P.within).1 ((odd-routable b ps P).0 r),
      λ h. (odd-routable b ps P).1 ((helpers-some P.within).0 h),
    )

    pub routable-none : (Routable b ps → ⊥) ↔ (helpers b ps ≡ none)
    routable-none = (
      λ n. (helpers-none P.within).1 (λ h. n ((odd-routable b ps P).1 h)),
      λ e r. (helpers-none P.within).0 e ((odd-routable b ps P).0 r),
    )
