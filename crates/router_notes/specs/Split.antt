-- A split keeps the invariant: two ends leave the corner, one to each side.
-- Assumes the invariant, a corner with two edges, and a choice of the two pairs that the theorem allows.
use Rattle.std.specs.Prelude.{◌≡◌, Bool, true, ℕ, suc, ◌≤◌, ◌<◌}
use Rattle.std.proofs.Common.{ap, ◌∙◌, sym, subst, inl, inr, arith}
use Rattle.count.specs.Bits.{eq_case}
use Rattle.board.specs.declared.Vertex.{Vertex}
use Rattle.net.specs.Terminals.{same}
use Rattle.corner.specs.Pairs.{standing, Proper}
use Rattle.corner.specs.Shape.{Shape, present, Good, Top, Less, last, UL, NUL, BUL, narrow}
use Rattle.corner.proofs.Presence.{present_yes, last_suc}
use Rattle.corner.proofs.Delete.{narrow_less}
use Rattle.router_notes.specs.Notes.{Item, Moved, on}
use Rattle.router_notes.specs.State.{State, Closes}
use Rattle.router_notes.specs.Leads.{leads_trans, closes-fine, split-leads}
use Rattle.router_notes.specs.Table.{pairs_of, Has}
use Rattle.router_notes.specs.Goods.{split_table}
use Rattle.router_notes.specs.Inv.{turn, turn_i, Inv, across_move, down_move, Shuts, Noted}
use Rattle.router_notes.specs.Corner.{
  turn_twice,
  turn_low,
  across_start,
  across_finish,
  down_start,
  down_finish,
  moves_differ,
  moved_has,
  moved_id,
  moved_frame,
  shut-u,
  was-u,
  same_left,
}

-- ── split ──
module _ (s0 s s' : State) (S : Shape) (o : Bool) (I : Inv s0 s S o) (T : Top S) (wide : S.a S.top < S.b S.top) (deep : S.top < S.bottom)
    (Z : Shuts s s' S (narrow S) o) (size : s'.n ≡ s.n) (same_next : s'.next ≡ s.next) (M : Noted s s' (turn o (UL S))) where
  low-top : S.top < last
  low-top = omega (arith, I.good.shaped.low, last_suc)

  less : Less S (narrow S) (UL S)
  less = narrow_less S I.good.shaped wide

  ids-same : ((k : ℕ) → k < s.n → (s'.it k).id ≡ (s.it k).id) → Closes s s' (turn o (UL S))
  ids-same e = record {
    same_left = same_left s s' S (narrow S) o less (omega (arith, low-top)) I.link I.out Z;
    shut = shut-u s s' S (narrow S) o less (omega (arith, low-top)) I.link I.out Z;
    was = was-u s s' S (narrow S) o less (omega (arith, low-top)) I.link I.out Z;
    same_go = M.go;
    same_part = λ k. inl (M.part k);
    more = omega arith;
    live = λ k h. inl (h.0, omega (arith, h.1), sym (e h.0 (omega (arith, h.1))) ∙ h.2);
  }

  left_at : (v : Vertex) → v.line ≤ last → present S v.line v.column ≡ true → s.left (turn o v) ≡ true
  left_at v h p = I.link (turn o v) (turn_low o v h) ∙ subst (λ w. present S w.line w.column ≡ true) (sym (turn_twice o v h)) p

  pub split-inv : (i j : ℕ) → i < s.n → j < s.n → (i ≡ j → ⊥) → Proper (pairs_of s.n (λ k. turn_i o (s.it k)))
      → standing (same (UL S)) (pairs_of s.n (λ k. turn_i o (s.it k))) ≡ 2
      → (v1 : Moved (s.it i) (across_move o S) (s'.it i)) (v2 : Moved (s.it j) (down_move o S) (s'.it j))
      → ((k : ℕ) → (k ≡ i → ⊥) → (k ≡ j → ⊥) → s'.it k ≡ s.it k)
      → ((f g : Vertex) → Has (turn_i o (s.it i)) (UL S) f → Has (turn_i o (s.it j)) (UL S) g
      → (g.line ≤ S.top → f.line ≤ S.top) × (f.column ≤ S.a S.top → g.column ≤ S.a S.top))
      → s'.notes.go (s.it i).id (turn o (UL S)) ≡ on (across_move o S) → s'.notes.go (s.it j).id (turn o (UL S)) ≡ on (down_move o S)
      → Inv s0 s' (narrow S) o
  split-inv i j li lj ne pr z v1 v2 others ok g1 g2 =
      let lt = low-top in
      let t1 = T (suc S.top) (omega arith, deep) in
      let h1 = moved_has o S (s.it i) (s'.it i) (across_move o S) (NUL S) (omega arith) (omega arith) (across_start o S) (across_finish o S) v1 in
      let h2 = moved_has o S (s.it j) (s'.it j) (down_move o S) (BUL S) (omega arith) (omega arith) (down_start o S lt) (down_finish o S) v2 in
      let w = ok h1.0 h2.0 h1.1 h2.1 in
      let K = ids-same ids in
      record {
        lead = leads_trans s0 s s' I.lead (split-leads s s' (turn o (UL S)) K i j (across_move o S) (down_move o S) size li lj ne
            (λ k b p q. others k p q) v1 v2 (
              across_start o S,
              ap s.left (across_finish o S)
                  ∙ left_at (NUL S) (omega arith) (present_yes S S.top (suc (S.a S.top))
                  (record { low = omega arith; high = omega arith; from = omega arith; to = wide })),
            ) (
              down_start o S lt,
              ap s.left (down_finish o S)
                  ∙ left_at (BUL S) (omega arith) (present_yes S (suc S.top) (S.a S.top)
                  (record { low = omega arith; high = deep; from = t1.0; to = omega (arith, t1) })),
            )
            (moves_differ o S) g1 g2);
        fine = closes-fine s s' (turn o (UL S)) K I.fine
            (λ k b. let c : k < s.n = omega arith in omega (arith, ids k c, I.fine.ids k c))
            (λ k l b b' e. let c : k < s.n = omega arith in let c' : l < s.n = omega arith in
            I.fine.once k l c c' (sym (ids k c) ∙ e ∙ ids l c'));
        good = subst (λ m. Good (narrow S) (pairs_of m (λ k. turn_i o (s'.it k)))) (sym size)
            (split_table S s.n (λ k. turn_i o (s.it k)) (λ k. turn_i o (s'.it k)) i j h1.0 h2.0 I.good T wide deep pr z li lj ne h1.1
            h2.1 w.0 w.1 h1.2 h2.2
            (λ k p q. ap (turn_i o) (others k p q)));
        link = Z.link;
        out = Z.out;
        frame = λ k b. frame k (omega arith);
      }
    where
      frame : (k : ℕ) → k < s.n → ((s'.it k).a.line ≤ last) × ((s'.it k).b.line ≤ last)
      frame k b = elim (eq_case k i) [
        | inl p ↦ subst (λ x. ((s'.it x).a.line ≤ last) × ((s'.it x).b.line ≤ last)) (sym p.2)
            (moved_frame (s.it i) (s'.it i) (across_move o S) v1
            (subst (λ w. w.line ≤ last) (sym (across_finish o S)) (turn_low o (NUL S) (omega (arith, low-top)))) (I.frame i li))
        | inr p ↦ elim (eq_case k j) [
          | inl q ↦ subst (λ x. ((s'.it x).a.line ≤ last) × ((s'.it x).b.line ≤ last)) (sym q.2)
              (moved_frame (s.it j) (s'.it j) (down_move o S) v2
              (subst (λ w. w.line ≤ last) (sym (down_finish o S)) (turn_low o (BUL S) (omega (arith, low-top)))) (I.frame j lj))
          | inr q ↦ subst (λ (x : Item). (x.a.line ≤ last) × (x.b.line ≤ last)) (sym (others k p.2 q.2)) (I.frame k b)
        ]
      ]

      ids : (k : ℕ) → k < s.n → (s'.it k).id ≡ (s.it k).id
      ids k b = elim (eq_case k i) [
        | inl p ↦ subst (λ x. (s'.it x).id ≡ (s.it x).id) (sym p.2) (moved_id (s.it i) (s'.it i) (across_move o S) v1)
        | inr p ↦ elim (eq_case k j) [
          | inl q ↦ subst (λ x. (s'.it x).id ≡ (s.it x).id) (sym q.2) (moved_id (s.it j) (s'.it j) (down_move o S) v2)
          | inr q ↦ ap (λ (x : Item). x.id) (others k p.2 q.2)
        ]
      ]
