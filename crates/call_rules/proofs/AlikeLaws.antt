-- The test of two routings is exact: it holds where they are alike, and only there.
-- Assumes nothing.
use Rattle.std.specs.Prelude.{◌≡◌, refl, true, ◌&&◌, List, [], ◌∷◌, ◌↔◌, ◌<◌, ltb}
use Rattle.std.proofs.Common.{ap, inl, inr, arith, lt-ltb, ltb-true}
use Rattle.count.specs.Truth.{one}
use Rattle.count.specs.TruthLaws.{bool, clash, and_true, and_yes}
use Rattle.board.specs.Board.{Edge}
use Rattle.routing_rules.specs.Routing.{same_edge, uses}
use Rattle.routing_rules.specs.Check.{same_edge_exact}
use Rattle.call_rules.specs.Alike.{SameEdges, Alike, among?, alike?}

-- DEFINITION: every edge of the one list is in the other
abbrev pub Among : List Edge → List Edge → Type 0
Among es fs = (e : Edge) → 0 < uses e es → 0 < uses e fs

among_exact : (es fs : List Edge) → (among? es fs ≡ true) ↔ Among es fs
unfolding among? uses
among_exact [] fs = (λ t e h. absurd (omega arith), λ h. refl)
among_exact (f ∷ es) fs = (
  λ t e h.
      let k = and_true (ltb 0 (uses f fs)) (among? es fs) t in
      elim (bool (same_edge e f)) [
        | inl s ↦ let q : e ≡ f = (same_edge_exact e f).0 s in rw q (ltb-true 0 (uses f fs) k.0)
        | inr s ↦ (among_exact es fs).0 k.1 e (omega (arith, ap one s))
      ],
  λ h.
      let s : one (same_edge f f) ≡ 1 = ap one ((same_edge_exact f f).1 refl) in
      and_yes (ltb 0 (uses f fs)) (among? es fs) (lt-ltb 0 (uses f fs) (h f (omega arith)))
      ((among_exact es fs).1 (λ e p. h e (omega arith))),
)

same_exact : (es fs : List Edge) → (among? es fs && among? fs es ≡ true) ↔ SameEdges es fs
same_exact es fs = (
  λ t e. let k = and_true (among? es fs) (among? fs es) t in ((among_exact es fs).0 k.0 e, (among_exact fs es).0 k.1 e),
  λ h. and_yes (among? es fs) (among? fs es) ((among_exact es fs).1 (λ e. (h e).0)) ((among_exact fs es).1 (λ e. (h e).1)),
)

-- THE LAW: the test holds exactly where the routings are alike
pub alike_exact : (ess fss : List (List Edge)) → (alike? ess fss ≡ true) ↔ Alike ess fss
unfolding alike?
alike_exact [] [] = (λ t. tt, λ h. refl)
alike_exact [] (fs ∷ fss) = (λ t. clash t refl, λ h. absurd h)
alike_exact (es ∷ ess) [] = (λ t. clash t refl, λ h. absurd h)
alike_exact (es ∷ ess) (fs ∷ fss) = (
  λ t.
      let k = and_true (among? es fs && among? fs es) (alike? ess fss) t in
      ((same_exact es fs).0 k.0, (alike_exact ess fss).0 k.1),
  λ h. and_yes (among? es fs && among? fs es) (alike? ess fss) ((same_exact es fs).1 h.0) ((alike_exact ess fss).1 h.1),
)
