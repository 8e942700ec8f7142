-- Moving an end, adding a helper, dividing a pair and dropping a trivial one keep the invariant.
-- Assumes the invariant, and that the new problem is good (by Goods).
use Rattle.std.specs.Prelude.{◌≡◌, Bool, true, false, ◌⊎◌, ℕ, suc, ◌≤◌, ◌<◌}
use Rattle.std.proofs.Common.{ap, ◌∙◌, sym, subst, inl, inr, arith}
use Rattle.count.specs.Bits.{eq_case}
use Rattle.board.specs.declared.Vertex.{Vertex}
use Rattle.corner.specs.Shape.{Shape, Good, Less, size, last, UL}
use Rattle.corner.specs.Trails.{same_link}
use Rattle.router_notes.specs.Notes.{Move, edge, start, finish, opp, Item, item, Moved, on, parted}
use Rattle.router_notes.specs.Moves.{start_opp, finish_opp, edge_opp}
use Rattle.router_notes.specs.State.{State, Live, Leads, Fine, Closes}
use Rattle.router_notes.specs.Leads.{leads_trans, drop-fine, drop-leads, closes-fine, move-leads, helper-leads, joint-leads}
use Rattle.router_notes.specs.Table.{pairs_of}
use Rattle.router_notes.specs.Goods.{drop_table}
use Rattle.router_notes.specs.Inv.{turn, turn_i, Framed, Inv, Shuts}
use Rattle.router_notes.specs.Corner.{shut-u, was-u, same_left}

module _ (s0 s s' : State) (S S' : Shape) (o : Bool) (I : Inv s0 s S o) (L : Less S S' (UL S)) (low : S.top ≤ last) (Z : Shuts s s' S S' o)
    (good' : Good S' (pairs_of s'.n (λ k. turn_i o (s'.it k)))) (frame' : Framed s') where
  abbrev U : Vertex
  U = turn o (UL S)

  closes : ((k : ℕ) (v : Vertex) → (s'.notes.go k v ≡ s.notes.go k v) ⊎ ((U ≡ v) × Live s k))
      → ((k : ℕ) → (s'.notes.part k ≡ s.notes.part k) ⊎ (Live s k × (Live s' k → ⊥)))
      → s.next ≤ s'.next → ((k : ℕ) → Live s' k → Live s k ⊎ (s.next ≤ k)) → Closes s s' U
  closes go part more live = record {
    same_left = same_left s s' S S' o L low I.link I.out Z;
    shut = shut-u s s' S S' o L low I.link I.out Z;
    was = was-u s s' S S' o L low I.link I.out Z;
    same_go = go;
    same_part = part;
    more = more;
    live = live;
  }

  done : Leads s s' → Fine s' → Inv s0 s' S' o
  done l f = record { lead = leads_trans s0 s s' I.lead l; fine = f; good = good'; link = Z.link; out = Z.out; frame = frame' }

  -- one end moves
  pub move-inv : (i : ℕ) (m : Move) → s'.n ≡ s.n → s'.next ≡ s.next → i < s.n → ((j : ℕ) → (j ≡ i → ⊥) → s'.it j ≡ s.it j)
      → Moved (s.it i) m (s'.it i) → start m ≡ U → s.left (finish m) ≡ true → s'.notes.go (s.it i).id U ≡ on m
      → ((k : ℕ) (v : Vertex) → (s'.notes.go k v ≡ s.notes.go k v) ⊎ ((U ≡ v) × Live s k)) → ((k : ℕ) → s'.notes.part k ≡ s.notes.part k)
      → Inv s0 s' S' o
  move-inv i m size nx li others mv es ol g go part = done (move-leads s s' U K i m size li (λ j b q. others j q) mv (es, ol) g)
      (closes-fine s s' U K I.fine (λ k b. let c : k < s.n = omega arith in omega (arith, ids k, I.fine.ids k c))
      (λ k l b b' e. I.fine.once k l (omega arith) (omega arith) (sym (ids k) ∙ e ∙ ids l)))
    where
      ids : (k : ℕ) → (s'.it k).id ≡ (s.it k).id
      ids k = elim (eq_case k i) [
        | inl p ↦ subst (λ x. (s'.it x).id ≡ (s.it x).id) (sym p.2)
            (elim mv [ inl h ↦ ap (λ (z : Item). z.id) h.1 | inr h ↦ ap (λ (z : Item). z.id) h.1 ])
        | inr p ↦ ap (λ (x : Item). x.id) (others k p.2)
      ]

      K : Closes s s' U
      K = closes go (λ k. inl (part k)) (omega arith) (λ k h. inl (h.0, omega (arith, h.1), sym (ids h.0) ∙ h.2))

  -- a helper is added
  pub helper-inv : s'.n ≡ suc s.n → s'.next ≡ suc s.next → ((j : ℕ) → j < s.n → s'.it j ≡ s.it j) → (s'.it s.n).id ≡ s.next
      → ((k : ℕ) (v : Vertex) → s'.notes.go k v ≡ s.notes.go k v) → ((k : ℕ) → s'.notes.part k ≡ s.notes.part k) → Inv s0 s' S' o
  helper-inv size nx others new go part = done (helper-leads s s' U K size others)
      (closes-fine s s' U K I.fine (λ k b. elim (place k b)
      [ inl h ↦ omega (arith, h.1, I.fine.ids k h.0) | inr h ↦ omega (arith, ap (λ x. (s'.it x).id) h) ])
      (λ k l b b' e. elim (place k b) [
        | inl h ↦ elim (place l b') [
          | inl g ↦ I.fine.once k l h.0 g.0 (sym h.1 ∙ e ∙ g.1)
          | inr g ↦ absurd (omega (arith, h.1, I.fine.ids k h.0, ap (λ x. (s'.it x).id) g))
        ]
        | inr h ↦ elim (place l b') [
          | inl g ↦ absurd (omega (arith, g.1, I.fine.ids l g.0, ap (λ x. (s'.it x).id) h))
          | inr g ↦ h ∙ sym g
        ]
      ]))
    where
      place : (k : ℕ) → k < s'.n → ((k < s.n) × ((s'.it k).id ≡ (s.it k).id)) ⊎ (k ≡ s.n)
      place k b = elim (eq_case k s.n) [
        | inl e ↦ inr e.2
        | inr e ↦ let c : k < s.n = omega (arith, e.2) in
            inl (c, ap (λ (x : Item). x.id) (others k c))
      ]

      K : Closes s s' U
      K = closes (λ k v. inl (go k v)) (λ k. inl (part k)) (omega arith) (λ k h. elim (place h.0 h.1) [
        | inl q ↦ inl (h.0, q.0, sym q.1 ∙ h.2)
        | inr q ↦ inr (omega (arith, h.2, ap (λ x. (s'.it x).id) q))
      ])

  -- row i is divided: mA leads from the corner to the first half's end, mB to the second's
  pub joint-inv : (i : ℕ) (mA mB : Move) → s'.n ≡ suc s.n → s'.next ≡ suc (suc s.next) → i < s.n
      → ((j : ℕ) → j < s.n → (j ≡ i → ⊥) → s'.it j ≡ s.it j)
      → s'.it i ≡ item s.next (s.it i).a (finish mA) → s'.it s.n ≡ item (suc s.next) (finish mB) (s.it i).b
      → start mA ≡ U → start mB ≡ U → s.left (finish mA) ≡ true → s.left (finish mB) ≡ true → same_link (edge mA) (edge mB) ≡ false
      → s.left (s.it i).a ≡ true → s.left (s.it i).b ≡ true
      → s'.notes.part (s.it i).id ≡ parted (s'.it i) (opp mA) mB (s'.it s.n)
      → ((k : ℕ) → (k ≡ (s.it i).id → ⊥) → s'.notes.part k ≡ s.notes.part k)
      → ((k : ℕ) (v : Vertex) → s'.notes.go k v ≡ s.notes.go k v) → Inv s0 s' S' o
  joint-inv i mA mB size nx li others first second ea eb la lb df oa ob pt part go = done
      (joint-leads s s' U K I.fine i (opp mA) mB size li others (ap (λ (x : Item). x.a) first)
      (ap (λ (x : Item). x.b) first ∙ sym (start_opp mA)) (finish_opp mA ∙ ea) eb
      (sym (ap (λ (x : Item). x.a) second)) (ap (λ (x : Item). x.b) second) (ap s.left (start_opp mA) ∙ la) lb
      (ap (λ f. same_link f (edge mB)) (edge_opp mA) ∙ df) oa ob dead pt (go (s.it i).id))
      (closes-fine s s' U K I.fine
      (λ k b. elim (place k b) [
        | inl h ↦ omega (arith, h.2, I.fine.ids k h.0)
        | inr h ↦
            elim h [ inl g ↦ omega (arith, g.1) | inr g ↦ omega (arith, g.1) ]
      ])
      once)
    where
      -- an old row, the first half, the second half
      place : (k : ℕ) → k < s'.n → ((k < s.n) × (k ≡ i → ⊥) × ((s'.it k).id ≡ (s.it k).id)) ⊎
          (((k ≡ i) × ((s'.it k).id ≡ s.next)) ⊎ ((k ≡ s.n) × ((s'.it k).id ≡ suc s.next)))
      place k b = elim (eq_case k s.n) [
        | inl e ↦ inr (inr (e.2, ap (λ x. (s'.it x).id) e.2 ∙ ap (λ (x : Item). x.id) second))
        | inr e ↦ elim (eq_case k i) [
          | inl f ↦ inr (inl (f.2, ap (λ x. (s'.it x).id) f.2 ∙ ap (λ (x : Item). x.id) first))
          | inr f ↦ let c : k < s.n = omega (arith, e.2) in inl (c, f.2, ap (λ (x : Item). x.id) (others k c f.2))
        ]
      ]

      id-low : (s.it i).id < s.next
      id-low = I.fine.ids i li

      dead : Live s' (s.it i).id → ⊥
      dead h = elim (place h.0 h.1) [
        | inl q ↦ q.1 (I.fine.once h.0 i q.0 li (sym q.2 ∙ h.2))
        | inr q ↦ elim q [ inl g ↦ absurd (omega (arith, g.1, h.2, id-low)) | inr g ↦ absurd (omega (arith, g.1, h.2, id-low)) ]
      ]

      once : (k l : ℕ) → k < s'.n → l < s'.n → (s'.it k).id ≡ (s'.it l).id → k ≡ l
      once k l b b' e = elim (place k b) [
        | inl h ↦ elim (place l b') [
          | inl g ↦ I.fine.once k l h.0 g.0 (sym h.2 ∙ e ∙ g.2)
          | inr g ↦ elim g [
            | inl x ↦ absurd (omega (arith, h.2, x.1, I.fine.ids k h.0))
            | inr x ↦
                absurd (omega (arith, h.2, x.1, I.fine.ids k h.0))
          ]
        ]
        | inr h ↦ elim (place l b') [
          | inl g ↦ elim h [
            | inl x ↦ absurd (omega (arith, g.2, x.1, I.fine.ids l g.0))
            | inr x ↦
                absurd (omega (arith, g.2, x.1, I.fine.ids l g.0))
          ]
          | inr g ↦ elim h [
            | inl x ↦ elim g [ inl y ↦ x.0 ∙ sym y.0 | inr y ↦ absurd (omega (arith, x.1, y.1)) ]
            | inr x ↦ elim g [ inl y ↦ absurd (omega (arith, x.1, y.1)) | inr y ↦ x.0 ∙ sym y.0 ]
          ]
        ]
      ]

      K : Closes s s' U
      K = closes (λ k v. inl (go k v))
          (λ k. elim (eq_case k (s.it i).id) [
            | inl e ↦ inr ((i, li, sym e.2), λ h. dead (subst (λ x. Live s' x) e.2 h))
            | inr e ↦
                inl (part k e.2)
          ])
          (omega arith)
          (λ k h. elim (place h.0 h.1) [
            | inl q ↦ inl (h.0, q.0, sym q.2 ∙ h.2)
            | inr q ↦ elim q [ inl g ↦ inr (omega (arith, g.1, h.2)) | inr g ↦ inr (omega (arith, g.1, h.2)) ]
          ])

-- a trivial row is dropped
pub drop_inv : (s0 s : State) (S : Shape) (o : Bool) (I : Inv s0 s S o) (n : ℕ) (it' : ℕ → Item) (i : ℕ) → (size : s.n ≡ suc n) → (low : i ≤ n)
    → (others : (j : ℕ) → j < n → (j ≡ i → ⊥) → it' j ≡ s.it j) → (moved : i < n → it' i ≡ s.it n) → (s.it i).a ≡ (s.it i).b
    → s.left (s.it i).a ≡ true
    → Inv s0 (record { notes = s.notes; left = s.left; n = n; it = it'; next = s.next }) S o
drop_inv s0 s S o I n it' i size low others moved triv ol = record {
  lead = leads_trans s0 s _ I.lead (drop-leads s n it' i I.fine size low others moved triv ol);
  fine = drop-fine s n it' i I.fine size low others moved;
  good = drop_table S n (λ k. turn_i o (s.it k)) (λ k. turn_i o (it' k)) i low (λ j l q. ap (turn_i o) (others j l q)) (λ l. ap (turn_i o) (moved l))
      (ap (turn o) triv)
      (subst (λ m. Good S (pairs_of m (λ k. turn_i o (s.it k)))) size I.good);
  link = I.link;
  out = I.out;
  frame = λ j l. elim (eq_case j i) [
    | inl q ↦ subst (λ (x : Item). (x.a.line ≤ last) × (x.b.line ≤ last))
        (sym (subst (λ z. it' z ≡ s.it n) (sym q.2) (moved (omega (arith, q.2))))) (I.frame n (omega arith))
    | inr q ↦ subst (λ (x : Item). (x.a.line ≤ last) × (x.b.line ≤ last)) (sym (others j l q.2)) (I.frame j (omega arith))
  ];
}
