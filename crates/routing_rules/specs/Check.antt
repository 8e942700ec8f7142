-- Tests of paths and routings that are exact: what a program can compute of the definitions in Routing.
-- Assumes nothing.
use Rattle.std.specs.Prelude.{◌≡◌, refl, Bool, true, false, ◌&&◌, ◌↔◌, ◌≤◌, eqb}
use Rattle.std.proofs.Common.{ap, inl, inr, arith, eqb-true, eq-eqb}
use mathlib.Core.List.{List, [], ◌∷◌, flatten}
use Rattle.count.specs.Truth.{one}
use Rattle.count.specs.TruthLaws.{bool, clash, and_true, and_yes}
use Rattle.board.specs.Board.{Board, Edge}
use Rattle.board.specs.Path.{next, Path}
use Rattle.board.specs.Degree.{edge?}
use Rattle.board.specs.Tests.{edge_exact}
use Rattle.board.specs.declared.Vertex.{Vertex}
use Rattle.board.specs.declared.Direction.{Direction}
use Rattle.net.specs.Terminals.{same}
use Rattle.net.specs.Same.{same_exact}
use Rattle.net.specs.declared.Pair.{Pair}
use Rattle.routing_rules.specs.Routing.{Joins, trails, same_edge, uses, Routing}

-- ── equal vertices and edges ──
pub same_edge_exact : (e f : Edge) → (same_edge e f ≡ true) ↔ (e ≡ f)
same_edge_exact e f = (
  λ h.
      let k = and_true (same e.from f.from) (same e.to f.to) h in
      λ i. record { from = (same_exact e.from f.from).0 k.0 i; to = (same_exact e.to f.to).0 k.1 i },
  λ h.
      and_yes (same e.from f.from) (same e.to f.to) ((same_exact e.from f.from).1 (ap (λ (g : Edge). g.from) h))
      ((same_exact e.to f.to).1 (ap (λ (g : Edge). g.to) h)),
)

-- ── a path ──
unfoldable pub path? : Board → Vertex → List Direction → Vertex → Bool
path? b u [] v = same u v
path? b u (d ∷ ds) v = edge? b d u && path? b (next d u) ds v

pub path_exact : (b : Board) (u : Vertex) (ds : List Direction) (v : Vertex) → (path? b u ds v ≡ true) ↔ Path b u ds v
unfolding path?
path_exact b u [] v = same_exact u v
path_exact b u (d ∷ ds) v = (
  λ e. let k = and_true (edge? b d u) (path? b (next d u) ds v) e in ((edge_exact b d u).0 k.0, (path_exact b (next d u) ds v).0 k.1),
  λ p. and_yes (edge? b d u) (path? b (next d u) ds v) ((edge_exact b d u).1 p.0) ((path_exact b (next d u) ds v).1 p.1),
)

-- ── one path for each pair ──
unfoldable pub joins? : Board → List Pair → List (List Direction) → Bool
joins? b [] [] = true
joins? b [] (ds ∷ dss) = false
joins? b (p ∷ ps) [] = false
joins? b (p ∷ ps) (ds ∷ dss) = path? b p.first ds p.second && joins? b ps dss

pub joins_exact : (b : Board) (ps : List Pair) (dss : List (List Direction)) → (joins? b ps dss ≡ true) ↔ Joins b ps dss
unfolding joins?
joins_exact b [] [] = (λ e. tt, λ j. refl)
joins_exact b [] (ds ∷ dss) = (λ e. clash e refl, λ j. absurd j)
joins_exact b (p ∷ ps) [] = (λ e. clash e refl, λ j. absurd j)
joins_exact b (p ∷ ps) (ds ∷ dss) = (
  λ e.
      let k = and_true (path? b p.first ds p.second) (joins? b ps dss) e in
      ((path_exact b p.first ds p.second).0 k.0, (joins_exact b ps dss).0 k.1),
  λ j.
      and_yes (path? b p.first ds p.second) (joins? b ps dss) ((path_exact b p.first ds p.second).1 j.0)
      ((joins_exact b ps dss).1 j.1),
)

-- ── no edge twice ──
unfoldable pub once? : List Edge → Bool
once? [] = true
once? (e ∷ es) = eqb (uses e es) 0 && once? es

pub once_exact : (es : List Edge) → (once? es ≡ true) ↔ ((e : Edge) → uses e es ≤ 1)
unfolding once? uses
once_exact [] = (λ h e. omega arith, λ h. refl)
once_exact (f ∷ fs) = (
  λ h e.
      let k = and_true (eqb (uses f fs) 0) (once? fs) h in
      let z : uses f fs ≡ 0 = eqb-true _ _ k.0 in
      elim (bool (same_edge e f)) [
        | inl s ↦ let q : e ≡ f = (same_edge_exact e f).0 s in let t : uses e fs ≡ 0 = rw q z in omega (arith, ap one s)
        | inr s ↦ omega (arith, ap one s, (once_exact fs).0 k.1 e)
      ],
  λ h.
      let s : one (same_edge f f) ≡ 1 = ap one ((same_edge_exact f f).1 refl) in
      and_yes (eqb (uses f fs) 0) (once? fs) (eq-eqb _ _ (let g : uses f fs ≡ 0 = omega (arith, h f) in g))
      ((once_exact fs).1 (λ e. omega (arith, h e))),
)

-- ── a routing ──
unfoldable pub routing? : Board → List Pair → List (List Direction) → Bool
routing? b ps dss = joins? b ps dss && once? (flatten (trails ps dss))

pub routing_exact : (b : Board) (ps : List Pair) (dss : List (List Direction)) → (routing? b ps dss ≡ true) ↔ Routing b ps dss
unfolding routing?
routing_exact b ps dss = (
  λ e.
      let k = and_true (joins? b ps dss) (once? (flatten (trails ps dss))) e in
      record { joins = (joins_exact b ps dss).0 k.0; once = (once_exact (flatten (trails ps dss))).0 k.1 },
  λ r.
      and_yes (joins? b ps dss) (once? (flatten (trails ps dss))) ((joins_exact b ps dss).1 r.joins)
      ((once_exact (flatten (trails ps dss))).1 r.once),
)
