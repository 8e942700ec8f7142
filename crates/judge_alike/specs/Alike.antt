-- The maps of two lists that pass are alike exactly where the routings are: where each net uses the same set of edges in both.
-- Assumes of both lists that they have paths for the same nets, in rising number, and that their paths are a routing of a board within the limits.
use Rattle.std.specs.Prelude.{◌≡◌, refl, Bool, true, false, ◌↔◌, ℕ, suc, ◌+◌, ◌<◌, ◌≤◌, ltb, length}
use Rattle.std.proofs.Math.Path.{ap, sym}
use Rattle.std.proofs.Common.{◌∙◌, arith, lt-ltb, ltb-true, ltb-false}
use Rattle.std.proofs.Math.Bool.{cond}
use mathlib.Core.List.{List, [], ◌∷◌, flatten, map}
use Rattle.std.proofs.Math.Logic.{inl, inr}
use Rattle.count.specs.TruthLaws.{bool, bool_eq, eq_or_ne}
use Rattle.board.specs.Board.{Board, Within, Edge}
use Rattle.net.specs.declared.Net.{Net}
use Rattle.routing_rules.specs.Routing.{edges_from, trails, uses, Routing}
use Rattle.session_laws.specs.Rising.{From}
use Rattle.session_laws.proofs.Rising.{from_less}
use Rattle.call_rules.specs.Shape.{PathAt}
use Rattle.call_rules.specs.Report.{directions}
use Rattle.call_rules.specs.Alike.{Alike, alike?}
use Rattle.call_rules.proofs.AlikeLaws.{alike_exact}
use Rattle.call_rules.specs.Judge.{paths_in}
use Rattle.judge_laws.specs.Walks.{ends_of}
use Rattle.routing_laws.proofs.Used.{uses_append, All, all_edges, joins_edges}
use Rattle.judge_laws.specs.Alike.{Once, once_rest}
use Rattle.judge_walk.specs.Slots.{slot, edge_at}
use Rattle.judge_walk.specs.SlotLaws.{Lies, edge_lies, slot_small, edge_at_slot}
use Rattle.judge_walk.specs.EdgeMap.{on_path, net_on, map_of}
use Rattle.judge_alike.specs.MapsAlike.{maps_alike}
use Rattle.judge_alike.specs.Slotwise.{maps_exact}

-- ── the nets of a list's paths, and their edges ──
-- DEFINITION: the nets that have a path, in their order
abbrev pub nets_in : List PathAt → List Net
nets_in ps = map (λ q. q.net) ps

-- DEFINITION: the edges of each path
abbrev pub edges_in : List PathAt → List (List Edge)
edges_in ps = trails (ends_of ps) (paths_in ps)

-- DEFINITION: the edges of one path
abbrev path_edges : PathAt → List Edge
path_edges p = edges_from p.net.ends.first (directions p.runs)

uses_more : (p : PathAt) (ps : List PathAt) (e : Edge) → uses e (flatten (edges_in (p ∷ ps))) ≡ uses e (path_edges p) + uses e (flatten (edges_in ps))
unfolding trails flatten
uses_more p ps e = uses_append e (path_edges p) (flatten (edges_in ps))

on-path : (e : Edge) (p : PathAt) → (on_path e p ≡ true) ↔ (0 < uses e (path_edges p))
unfolding on_path
on-path e p = (ltb-true 0 (uses e (path_edges p)), lt-ltb 0 (uses e (path_edges p)))

-- an edge that no path uses has no net
no-net : (ps : List PathAt) (e : Edge) → uses e (flatten (edges_in ps)) ≤ 0 → net_on ps e ≡ 0
unfolding net_on
no-net [] e h = refl
no-net (p ∷ ps) e h = elim (bool (on_path e p)) [
  | inl t ↦ absurd (let k = (on-path e p).0 t in omega (arith, uses_more p ps e))
  | inr t ↦ rw t (no-net ps e (omega (arith, uses_more p ps e)))
]

-- an edge that a path uses has no net of a later one
no_later : (p : PathAt) (ps : List PathAt) → Once (flatten (edges_in (p ∷ ps))) → (e : Edge) → on_path e p ≡ true → net_on ps e ≡ 0
no_later p ps o e t = let k = (on-path e p).0 t in no-net ps e (omega (arith, o e, uses_more p ps e))

-- and no edge has the number of an earlier one
not_earlier : (k : ℕ) (ps : List PathAt) → 0 < k → From (suc k) (nets_in ps) → (e : Edge) → net_on ps e ≡ k → ⊥
unfolding net_on
not_earlier k [] z f e h = omega arith
not_earlier k (p ∷ ps) z f e h = elim (bool (on_path e p)) [
  | inl t ↦ let n : p.net.number ≡ k = rw t at h in let l = f.0 in omega arith
  | inr t ↦ let l = f.0 in not_earlier k ps z (from_less (suc p.net.number) (suc k) (nets_in ps) (omega arith) f.1) e (rw t at h)
]

-- ── the same net at every edge, the same edges for every net ──
-- DEFINITION: every edge has the same net in both lists
abbrev SameNets : List PathAt → List PathAt → Type 0
SameNets ps qs = (e : Edge) → net_on ps e ≡ net_on qs e

-- of two choices with an equal outcome, where neither second is the first
picked : (k x y : ℕ) → (x ≡ k → ⊥) → (y ≡ k → ⊥) → (t u : Bool) → cond t k x ≡ cond u k y → t ≡ u
picked k x y m n true true e = refl
picked k x y m n true false e = absurd (n (sym e))
picked k x y m n false true e = absurd (m e)
picked k x y m n false false e = refl

module _ (p q : PathAt) (ps qs : List PathAt) (n : p.net.number ≡ q.net.number) (z : 0 < p.net.number)
    (f : From (suc p.net.number) (nets_in ps)) (g : From (suc p.net.number) (nets_in qs)) (h : SameNets (p ∷ ps) (q ∷ qs)) where
  first-same : (e : Edge) → on_path e p ≡ on_path e q
  unfolding net_on
  first-same e =
      picked p.net.number (net_on ps e) (net_on qs e) (not_earlier _ ps z f e) (not_earlier _ qs z g e) (on_path e p) (on_path e q)
      (h e ∙ ap (λ (k : ℕ). cond (on_path e q) k (net_on qs e)) (sym n))

  rest-same : Once (flatten (edges_in (p ∷ ps))) → Once (flatten (edges_in (q ∷ qs))) → SameNets ps qs
  unfolding net_on
  rest-same o r e = elim (bool (on_path e p)) [
    | inl t ↦ no_later p ps o e t ∙ sym (no_later q qs r e (sym (first-same e) ∙ t))
    | inr t ↦ rw (t, sym (first-same e) ∙ t) at (h e)
  ]

pub nets_alike : (k : ℕ) (ps qs : List PathAt) → nets_in ps ≡ nets_in qs → 0 < k → From k (nets_in ps) → Once (flatten (edges_in ps))
    → Once (flatten (edges_in qs)) → SameNets ps qs → Alike (edges_in ps) (edges_in qs)
unfolding trails flatten
nets_alike k [] [] e z f o r h = tt
nets_alike k [] (q ∷ qs) e z f o r h = absurd (let y : 0 ≡ suc (length (nets_in qs)) = ap length e in omega arith)
nets_alike k (p ∷ ps) [] e z f o r h = absurd (let y : suc (length (nets_in ps)) ≡ 0 = ap length e in omega arith)
nets_alike k (p ∷ ps) (q ∷ qs) e z f o r h =
    let m : p.net ≡ q.net = cc in
    let n : p.net.number ≡ q.net.number = ap (λ (x : Net). x.number) m in
    let s : nets_in ps ≡ nets_in qs = cc in
    let l : 0 < p.net.number = (let y = f.0 in omega arith) in
    let g : From (suc p.net.number) (nets_in qs) = rw (← s) f.1 in
    let one = first-same p q ps qs n l f.1 g h in (
      λ x. (λ y. (on-path x q).0 (sym (one x) ∙ (on-path x p).1 y), λ y. (on-path x p).0 (one x ∙ (on-path x q).1 y)),
      nets_alike (suc p.net.number) ps qs s (omega arith) f.1 (once_rest (path_edges p) (flatten (edges_in ps)) o)
          (once_rest (path_edges q) (flatten (edges_in qs)) r) (rest-same p q ps qs n l f.1 g h o r),
    )

pub alike_nets : (ps qs : List PathAt) → nets_in ps ≡ nets_in qs → Alike (edges_in ps) (edges_in qs) → SameNets ps qs
unfolding trails net_on
alike_nets [] [] e h x = refl
alike_nets [] (q ∷ qs) e h x = absurd h
alike_nets (p ∷ ps) [] e h x = absurd h
alike_nets (p ∷ ps) (q ∷ qs) e h x =
    let m : p.net ≡ q.net = cc in
    let n : p.net.number ≡ q.net.number = ap (λ (y : Net). y.number) m in
    let s : nets_in ps ≡ nets_in qs = cc in
    let t : on_path x p ≡ on_path x q = bool_eq (on_path x p) (on_path x q)
    (λ y. (on-path x q).1 ((h.0 x).0 ((on-path x p).0 y))) (λ y. (on-path x p).1 ((h.0 x).1 ((on-path x q).0 y))) in
    rw (t, n, alike_nets ps qs s h.1 x) refl

-- ── the slots are enough: every edge that a path uses has one ──
module _ {b : Board} (w : Within b) where
  on-board : (ps : List PathAt) → All b (flatten (edges_in ps)) → (e : Edge) → 0 < net_on ps e → Lies e
  on-board ps a e h = elim (bool (ltb 0 (uses e (flatten (edges_in ps))))) [
    | inl t ↦ edge_lies b w e (all_edges b (flatten (edges_in ps)) a e (ltb-true 0 _ t))
    | inr t ↦ absurd (let y = no-net ps e (ltb-false 0 _ t) in omega arith)
  ]

  slots-enough : (ps qs : List PathAt) → All b (flatten (edges_in ps)) → All b (flatten (edges_in qs))
      → ((s : ℕ) → s < 2048 → net_on ps (edge_at s) ≡ net_on qs (edge_at s)) → SameNets ps qs
  slots-enough ps qs a c h e = elim (eq_or_ne (net_on ps e) 0) [
    | inl x ↦ elim (eq_or_ne (net_on qs e) 0) [
      | inl y ↦ x ∙ sym y
      | inr y ↦ at_slot (on-board qs c e (omega arith))
    ]
    | inr x ↦ at_slot (on-board ps a e (omega arith))
  ]
    where
      at_slot : Lies e → net_on ps e ≡ net_on qs e
      at_slot l = rw (edge_at_slot e l) at (h (slot e) (slot_small e))

  -- THE LAW
  pub lists-alike : (ps qs : List PathAt) → nets_in ps ≡ nets_in qs → From 1 (nets_in ps) → Routing b (ends_of ps) (paths_in ps)
      → Routing b (ends_of qs) (paths_in qs) → maps_alike (map_of ps) (map_of qs) ≡ alike? (edges_in ps) (edges_in qs)
  lists-alike ps qs e f r t =
      bool_eq (maps_alike (map_of ps) (map_of qs)) (alike? (edges_in ps) (edges_in qs))
      (λ h. (alike_exact (edges_in ps) (edges_in qs)).1 (nets_alike 1 ps qs e (omega arith) f r.once t.once
      (slots-enough ps qs (joins_edges b (ends_of ps) (paths_in ps) r.joins) (joins_edges b (ends_of qs) (paths_in qs) t.joins)
      ((maps_exact ps qs).0 h))))
      (λ h. (maps_exact ps qs).1 (λ s l. alike_nets ps qs e ((alike_exact (edges_in ps) (edges_in qs)).0 h) (edge_at s)))
