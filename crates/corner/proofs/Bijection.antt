-- A bijection of vertices that keeps edges keeps routings: for boards, in their own words. (Carry has it for any two sets of unit edges.)
-- Assumes of the map what KeepsEdges says, and nothing of the boards.
use Rattle.std.specs.Prelude.{◌≡◌, refl, true, false, cond, List, ℕ, suc}
use Rattle.std.proofs.Common.{ap, ap₂, ◌∙◌, sym, subst, inl, inr, arith}
use Rattle.count.specs.TruthLaws.{not_true}
use Rattle.board.specs.Board.{Board, at, Edge, edge, IsEdge}
use Rattle.board.specs.declared.Vertex.{Vertex}
use Rattle.board.specs.declared.Direction.{Direction}
use Rattle.net.specs.declared.Pair.{Pair}
use Rattle.net.specs.Terminals.{same}
use Rattle.routing_rules.specs.Routing.{Routing, Routable}
use Rattle.corner.specs.Pairs.{maps}
use Rattle.corner.specs.Problem.{Joined, KeepsEdges}
use Rattle.net.specs.Same.{same_true, same_self}
use Rattle.corner.specs.Trails.{Link, hor, ver, lo, hi, Ends}
use Rattle.corner.proofs.Carry.{carry}
use Rattle.corner.proofs.Tidy.{tidy}
use Rattle.corner.specs.Links.{on_board, paths_of}
use Rattle.corner.proofs.LinkLaws.{on_exact, edge_unit, link_vertices}
use Rattle.corner.proofs.Paths.{routable_disjoint, routed_routing}

-- ── the unit edge between two neighbours (of two other vertices, any) ──
unfoldable link_between : Vertex → Vertex → Link
link_between u v = cond (same v (at u.line (suc u.column))) (hor u.line u.column) (
    cond (same u (at v.line (suc v.column))) (hor v.line v.column) (
    cond (same v (at (suc u.line) u.column)) (ver u.line u.column) (ver v.line v.column)))

differ_line : (l m c d : ℕ) → (l ≡ m → ⊥) → same (at l c) (at m d) ≡ false
differ_line l m c d h = not_true (same (at l c) (at m d)) (λ e. h (ap (λ (v : Vertex). v.line) (same_true (at l c) (at m d) e)))

differ_column : (l m c d : ℕ) → (c ≡ d → ⊥) → same (at l c) (at m d) ≡ false
differ_column l m c d h = not_true (same (at l c) (at m d)) (λ e. h (ap (λ (v : Vertex). v.column) (same_true (at l c) (at m d) e)))

between_to : (f : Link) → link_between (lo f) (hi f) ≡ f
unfolding link_between
between_to (hor l c) = rw (same_self (at l (suc c))) refl
between_to (ver l c) = rw (
  differ_line (suc l) l c (suc c) (λ e. omega arith),
  differ_line l (suc l) c (suc c) (λ e. omega arith),
  same_self (at (suc l) c),
) refl

between_fro : (f : Link) → link_between (hi f) (lo f) ≡ f
unfolding link_between
between_fro (hor l c) = rw (differ_column l l c (suc (suc c)) (λ e. omega arith), same_self (at l (suc c))) refl
between_fro (ver l c) = rw (
  differ_line l (suc l) c (suc c) (λ e. omega arith),
  differ_line (suc l) l c (suc c) (λ e. omega arith),
  differ_line l (suc (suc l)) c c (λ e. omega arith),
) refl

between_ends : (u v : Vertex) (f : Link) → Ends u v f → link_between u v ≡ f
between_ends u v f (inl h) = ap₂ link_between h.0 h.1 ∙ between_to f
between_ends u v f (inr h) = ap₂ link_between h.0 h.1 ∙ between_fro f

joined_link : (b : Board) (u v : Vertex) → Joined b u v → (on_board b (link_between u v) ≡ true) × Ends u v (link_between u v)
joined_link b u v (inl h) =
    let f = edge_unit b (edge u v) h in
    let e : Ends u v f.0 = inl (ap (λ (x : Edge). x.from) f.1, ap (λ (x : Edge). x.to) f.1) in
    subst (λ k. (on_board b k ≡ true) × Ends u v k) (sym (between_ends u v f.0 e)) ((on_exact b f.0).1 (subst (IsEdge b) f.1 h), e)
joined_link b u v (inr h) =
    let f = edge_unit b (edge v u) h in
    let e : Ends u v f.0 = inr (ap (λ (x : Edge). x.to) f.1, ap (λ (x : Edge). x.from) f.1) in
    subst (λ k. (on_board b k ≡ true) × Ends u v k) (sym (between_ends u v f.0 e)) ((on_exact b f.0).1 (subst (IsEdge b) f.1 h), e)

module _ (b b' : Board) (g h : Vertex → Vertex) (K : KeepsEdges b b' g h) where
  abbrev there : Link → Link
  there e = link_between (g (lo e)) (g (hi e))

  abbrev again : Link → Link
  again e = link_between (h (lo e)) (h (hi e))

  lands : (e : Link) → on_board b e ≡ true → (on_board b' (there e) ≡ true) × Ends (g (lo e)) (g (hi e)) (there e)
  lands e o = joined_link b' (g (lo e)) (g (hi e)) (K.keeps (lo e) (hi e) (inl ((on_exact b e).0 o)))

  undone : (e : Link) → on_board b e ≡ true → again (there e) ≡ e
  undone e o =
      let v = link_vertices b e o in
      let p = K.undo (lo e) v.0 in let q = K.undo (hi e) v.1 in
      between_ends (h (lo (there e))) (h (hi (there e))) e (elim (lands e o).1 [
        | inl k ↦ inl (ap h (sym k.0) ∙ p, ap h (sym k.1) ∙ q)
        | inr k ↦ inr (ap h (sym k.1) ∙ q, ap h (sym k.0) ∙ p)
      ])

  pub carried : (ps : List Pair) → Routable b ps → (dss : List (List Direction)) × Routing b' (maps g ps) dss
  carried ps R =
      let C = carry (on_board b') (on_board b) g there again (λ e o. (lands e o).0) (λ e o. (lands e o).1) undone ps
      (tidy (on_board b) ps (routable_disjoint b ps R)) in
      (paths_of (maps g ps) C.trails, routed_routing b' (maps g ps) C)
