-- Each step leads on: dropping a trivial pair, moving an end, splitting, dividing, adding a helper; and the end of all steps.
-- Assumes Fine of the state before, and Closes where a vertex is deleted.
use Rattle.std.specs.Prelude.{◌≡◌, refl, Bool, true, false, ◌&&◌, [], ℕ, suc, ◌+◌, ◌≤◌, ◌<◌}
use Rattle.std.proofs.Common.{ap, ◌∙◌, sym, subst, inl, inr, arith}
use Rattle.count.specs.Truth.{one}
use Rattle.count.specs.TruthLaws.{bool, clash, and_true, and_yes}
use Rattle.count.specs.Bits.{eq_case, one_imply}
use Rattle.count.specs.Sums.{sum_none}
use Rattle.board.specs.declared.Vertex.{Vertex}
use Rattle.net.specs.Terminals.{same}
use Rattle.net.specs.Same.{same_true, same_self}
use Rattle.corner.specs.Shape.{size}
use Rattle.corner.specs.Trails.{Link, lo, hi, same_link}
use Rattle.corner.proofs.TrailLaws.{link_true}
use Rattle.router_notes.specs.Notes.{Move, edge, start, finish, opp, Goes, uses, Item, Notes, Path, Routed, Moved, fwd, bwd, on, parted}
use Rattle.router_notes.specs.Update.{upd, upd_same, upd_other}
use Rattle.router_notes.specs.Moves.{start_opp, finish_opp, edge_opp}
use Rattle.router_notes.specs.Lift.{weaken, lift_moved, lift_fewer, lift_joint, lift_drop}
use Rattle.router_notes.specs.State.{State, room, Live, Later, Routes, Leads, Fine, Closes}

pub leads_refl : (s : State) → Leads s s
leads_refl s N l = (l, λ r. r)

pub leads_trans : (s t u : State) → Leads s t → Leads t u → Leads s u
leads_trans s t u f g N l = let a = g N l in let b = f N a.0 in (b.0, λ r. b.1 (a.1 r))

-- the end: nothing is left
pub leads_end : (s t : State) → Leads s t → t.n ≡ 0 → Routes t.notes s
leads_end s t f z = (f t.notes (record { gone = λ k v h. refl; dead = λ k h d v. refl; kept = λ k h d. refl })).1 (record {
  ms = λ i. [];
  goes = λ i l. absurd (omega arith);
  reads = λ i l. absurd (omega arith);
  bound = λ e. omega (arith, sum_none t.n (λ i. uses e []) (λ i l. absurd (omega arith)));
})

-- ── a trivial item is dropped ──
module _ (s : State) (n : ℕ) (it' : ℕ → Item) (i : ℕ) (F : Fine s) (size : s.n ≡ suc n) (low : i ≤ n)
    (others : (j : ℕ) → j < n → (j ≡ i → ⊥) → it' j ≡ s.it j) (moved : i < n → it' i ≡ s.it n) where
  abbrev pub dropped : State
  dropped = record { notes = s.notes; left = s.left; n = n; it = it'; next = s.next }

  -- the place that an item had
  was : (j : ℕ) → j < n → (k : ℕ) × (k < s.n) × (it' j ≡ s.it k) × (k ≡ i → ⊥)
  was j l = elim (eq_case j i) [
    | inl q ↦ (n, omega arith, rw q.2 (moved (omega (arith, q.2))), λ e. omega (arith, q.2))
    | inr q ↦ (j, omega arith, others j l q.2, q.2)
  ]

  pub drop-fine : Fine dropped
  drop-fine = record {
    quiet = F.quiet;
    uncut = λ k h. let w = was h.0 h.1 in F.uncut k (w.0, w.1, sym (ap (λ x. x.id) w.2) ∙ h.2);
    fresh = F.fresh;
    ids = λ j l. let w = was j l in rw w.2 (F.ids w.0 w.1);
    once = λ j k l l' e. same_place j k l l' e;
  }
    where
      same_place : (j k : ℕ) → j < n → k < n → (it' j).id ≡ (it' k).id → j ≡ k
      same_place j k l l' e =
          elim (eq_case j i) [
            | inl q ↦ elim (eq_case k i) [
              | inl r ↦ q.2 ∙ sym r.2
              | inr r ↦ absurd (
                  let f : (s.it n).id ≡ (s.it k).id = sym (ap (λ x. x.id) (subst (λ z. it' z ≡ s.it n) (sym q.2) (moved (omega (arith, q.2)))))
                  ∙ e ∙ ap (λ x. x.id) (others k l' r.2) in
                  omega (arith, F.once n k (omega arith) (omega arith) f))
            ]
            | inr q ↦ elim (eq_case k i) [
              | inl r ↦ absurd (
                  let f : (s.it j).id ≡ (s.it n).id = sym (ap (λ x. x.id) (others j l q.2)) ∙ e
                  ∙ ap (λ x. x.id) (subst (λ z. it' z ≡ s.it n) (sym r.2) (moved (omega (arith, r.2)))) in
                  omega (arith, F.once j n (omega arith) (omega arith) f))
              | inr r ↦ F.once j k (omega arith) (omega arith) (sym (ap (λ x. x.id) (others j l q.2)) ∙ e ∙ ap (λ x. x.id) (others k l' r.2))
            ]
          ]

  drop-dead : Live dropped (s.it i).id → ⊥
  drop-dead h = let w = was h.0 h.1 in w.3 (F.once w.0 i w.1 (omega arith) (sym (ap (λ x. x.id) w.2) ∙ h.2))

  drop-live : (k : ℕ) → Live dropped k → Live s k
  drop-live k h = let w = was h.0 h.1 in (w.0, w.1, sym (ap (λ x. x.id) w.2) ∙ h.2)

  pub drop-leads : (s.it i).a ≡ (s.it i).b → s.left (s.it i).a ≡ true → Leads s dropped
  drop-leads triv op N l = (
    record { gone = l.gone; dead = λ k b d. l.dead k b (λ h. d (drop-live k h)); kept = λ k b d. l.kept k b (λ h. d (drop-live k h)) },
    λ r. subst (λ z. Routed N (room s.left) z s.it) (sym size)
        (lift_drop N (room s.left) n s.it it' i low others moved triv
        (l.kept _ id-low drop-dead ∙ F.uncut _ (i, omega arith, refl))
        (l.dead _ id-low drop-dead _ ∙ F.quiet _ _ op)
        (l.dead _ id-low drop-dead _ ∙ F.quiet _ _ (subst (λ v. s.left v ≡ true) triv op))
        r),
  )
    where
      id-low : (s.it i).id < s.next
      id-low = F.ids i (omega arith)

module _ (s s' : State) (u : Vertex) (K : Closes s s' u) where
  shut-more : (v : Vertex) → s.left v ≡ false → s'.left v ≡ false
  shut-more v h = elim (bool (same u v)) [
    | inl e ↦ absurd (clash (subst (λ w. s.left w ≡ true) (same_true u v e) K.was) h)
    | inr e ↦ K.same_left v e ∙ h
  ]

  pub later-back : (N : Notes) → Later s' N → Later s N
  later-back N l = record {
    gone = λ k v h. l.gone k v (shut-more v h) ∙ elim (K.same_go k v) [
      | inl e ↦ e
      | inr e ↦ absurd (clash (subst (λ w. s.left w ≡ true) e.0 K.was) h)
    ];
    dead = λ k b d v. l.dead k (omega (arith, K.more)) (still k b d) v ∙ elim (K.same_go k v) [ inl e ↦ e | inr e ↦ absurd (d e.1) ];
    kept = λ k b d. l.kept k (omega (arith, K.more)) (still k b d) ∙ elim (K.same_part k) [ inl e ↦ e | inr e ↦ absurd (d e.0) ];
  }
    where
      still : (k : ℕ) → k < s.next → (Live s k → ⊥) → Live s' k → ⊥
      still k b d h = elim (K.live k h) [ inl g ↦ d g | inr g ↦ absurd (omega arith) ]

  pub closes-fine : Fine s → ((i : ℕ) → i < s'.n → (s'.it i).id < s'.next)
      → ((i j : ℕ) → i < s'.n → j < s'.n → (s'.it i).id ≡ (s'.it j).id → i ≡ j) → Fine s'
  closes-fine F ids once = record {
    quiet = λ k v h. elim (bool (same u v)) [
      | inl e ↦ absurd (clash h (subst (λ w. s'.left w ≡ false) (same_true u v e) K.shut))
      | inr e ↦ elim (K.same_go k v) [
        | inl g ↦ g ∙ F.quiet k v (sym (K.same_left v e) ∙ h)
        | inr g ↦ absurd (clash (subst (λ w. same u w ≡ true) g.0 (same_self u)) e)
      ]
    ];
    uncut = λ k h. elim (K.same_part k) [
      | inl g ↦ g ∙ elim (K.live k h) [ inl w ↦ F.uncut k w | inr w ↦ F.fresh k w ]
      | inr g ↦ absurd (g.1 h)
    ];
    fresh = λ k h. elim (K.same_part k) [
      | inl g ↦ g ∙ F.fresh k (omega (arith, K.more))
      | inr g ↦ absurd (omega (arith, K.more, F.ids g.0.0 g.0.1, g.0.2))
    ];
    ids = ids;
    once = once;
  }

  -- an edge of u is there no more
  room-mono : (e : Link) → s'.left (lo e) && s'.left (hi e) ≡ true → s.left (lo e) && s.left (hi e) ≡ true
  room-mono e h = let k = and_true (s'.left (lo e)) (s'.left (hi e)) h in and_yes _ _ (back (lo e) k.0) (back (hi e) k.1)
    where
      back : (v : Vertex) → s'.left v ≡ true → s.left v ≡ true
      back v h = elim (bool (s.left v)) [ inl e ↦ e | inr e ↦ absurd (clash h (shut-more v e)) ]

  -- a move from u to an open vertex
  abbrev pub From : Move → Type 0
  From m = (start m ≡ u) × (s.left (finish m) ≡ true)

  from-joined : (m : Move) → From m → s.left (lo (edge m)) && s.left (hi (edge m)) ≡ true
  from-joined (fwd e) h = and_yes _ _ (subst (λ w. s.left w ≡ true) (sym h.0) K.was) h.1
  from-joined (bwd e) h = and_yes _ _ h.1 (subst (λ w. s.left w ≡ true) (sym h.0) K.was)

  from-gone : (m : Move) → From m → s'.left (lo (edge m)) && s'.left (hi (edge m)) ≡ false
  from-gone (fwd e) h = rw (subst (λ w. s'.left w ≡ false) (sym h.0) K.shut)
  from-gone (bwd e) h = rw (subst (λ w. s'.left w ≡ false) (sym h.0) K.shut) (and_off (s'.left (lo e)))
    where
      and_off : (b : Bool) → b && false ≡ false
      and_off true = refl
      and_off false = refl

  pub room-one : (m : Move) → From m → (e : Link) → room s'.left e + one (same_link e (edge m)) ≤ room s.left e
  room-one m h e = elim (bool (same_link e (edge m))) [
    | inl q ↦ let p = link_true e (edge m) q in
        omega (
          arith,
          ap one q,
          ap one (subst (λ g. s.left (lo g) && s.left (hi g) ≡ true) (sym p) (from-joined m h)),
          ap one (subst (λ g. s'.left (lo g) && s'.left (hi g) ≡ false) (sym p) (from-gone m h)),
        )
    | inr q ↦ omega (arith, ap one q, one_imply _ _ (room-mono e))
  ]

  pub room-two : (m1 m2 : Move) → From m1 → From m2 → same_link (edge m1) (edge m2) ≡ false
      → (e : Link) → room s'.left e + one (same_link e (edge m1)) + one (same_link e (edge m2)) ≤ room s.left e
  room-two m1 m2 h1 h2 d e = elim (bool (same_link e (edge m1))) [
    | inl q ↦ let p = link_true e (edge m1) q in omega (arith, room-one m1 h1 e, ap one (subst (λ g. same_link g (edge m2) ≡ false) (sym p) d))
    | inr q ↦ omega (arith, room-one m2 h2 e, ap one q)
  ]

  -- ── one edge: one end moves ──
  pub move-leads : (i : ℕ) (m : Move) → s'.n ≡ s.n → i < s.n → ((j : ℕ) → j < s.n → (j ≡ i → ⊥) → s'.it j ≡ s.it j)
      → Moved (s.it i) m (s'.it i) → From m → s'.notes.go (s.it i).id u ≡ on m → Leads s s'
  move-leads i m size low others mv fr g N l = (
    later-back N l,
    λ r. weaken N _ (room s.left) s.n s.it (room-one m fr)
        (lift_moved N (room s'.left) s.n s.it s'.it i m low others mv (ap (N.go (s.it i).id) fr.0 ∙ l.gone _ u K.shut ∙ g)
        (subst (λ z. Routed N (room s'.left) z s'.it) size r)),
  )

  -- ── two edges, two ends ──
  pub split-leads : (i j : ℕ) (m1 m2 : Move) → s'.n ≡ s.n → i < s.n → j < s.n → (i ≡ j → ⊥)
      → ((k : ℕ) → k < s.n → (k ≡ i → ⊥) → (k ≡ j → ⊥) → s'.it k ≡ s.it k)
      → Moved (s.it i) m1 (s'.it i) → Moved (s.it j) m2 (s'.it j) → From m1 → From m2 → same_link (edge m1) (edge m2) ≡ false
      → s'.notes.go (s.it i).id u ≡ on m1 → s'.notes.go (s.it j).id u ≡ on m2 → Leads s s'
  split-leads i j m1 m2 size li lj ne others v1 v2 f1 f2 d g1 g2 N l = (
    later-back N l,
    λ r. weaken N _ (room s.left) s.n s.it (λ e. omega (arith, room-two m1 m2 f1 f2 d e))
        (lift_moved N _ s.n s.it half i m1 li between (subst (λ x. Moved (s.it i) m1 x) (sym (upd_other j (s.it j) s'.it i ne)) v1)
        (ap (N.go (s.it i).id) f1.0 ∙ l.gone _ u K.shut ∙ g1)
        (lift_moved N (room s'.left) s.n half s'.it j m2 lj (λ k b q. sym (upd_other j (s.it j) s'.it k q))
        (subst (λ x. Moved x m2 (s'.it j)) (sym (upd_same j (s.it j) s'.it)) v2)
        (ap (λ x. N.go x.id (start m2)) (upd_same j (s.it j) s'.it) ∙ ap (N.go (s.it j).id) f2.0 ∙ l.gone _ u K.shut ∙ g2)
        (subst (λ z. Routed N (room s'.left) z s'.it) size r))),
  )
    where
      half : ℕ → Item
      half = upd j (s.it j) s'.it

      between : (k : ℕ) → k < s.n → (k ≡ i → ⊥) → half k ≡ s.it k
      between k b p = elim (eq_case k j) [
        | inl q ↦ rw q.2 (upd_same j (s.it j) s'.it)
        | inr q ↦ upd_other j (s.it j) s'.it k q.2 ∙ others k b p q.2
      ]

  -- ── two edges, no end: a helper ──
  pub helper-leads : s'.n ≡ suc s.n → ((k : ℕ) → k < s.n → s'.it k ≡ s.it k) → Leads s s'
  helper-leads size others N l = (
    later-back N l,
    λ r. let q = lift_fewer N (room s'.left) s.n s'.n s'.it (omega arith) r in record {
      ms = q.ms;
      goes = λ k b. subst (λ x. Goes x.a (q.ms k) x.b) (others k b) (q.goes k b);
      reads = λ k b. subst (λ x. Path N x (q.ms k)) (others k b) (q.reads k b);
      bound = λ e. omega (arith, q.bound e, one_imply _ _ (room-mono e));
    },
  )

  -- ── two edges, no end: item i is divided at u ──
  pub joint-leads : Fine s → (i : ℕ) (m1 m2 : Move) → s'.n ≡ suc s.n → i < s.n → ((k : ℕ) → k < s.n → (k ≡ i → ⊥) → s'.it k ≡ s.it k)
      → (s'.it i).a ≡ (s.it i).a → (s'.it i).b ≡ start m1 → finish m1 ≡ u → start m2 ≡ u → finish m2 ≡ (s'.it s.n).a
      → (s'.it s.n).b ≡ (s.it i).b
      → s.left (start m1) ≡ true → s.left (finish m2) ≡ true → same_link (edge m1) (edge m2) ≡ false
      → s.left (s.it i).a ≡ true → s.left (s.it i).b ≡ true
      → (Live s' (s.it i).id → ⊥) → s'.notes.part (s.it i).id ≡ parted (s'.it i) m1 m2 (s'.it s.n)
      → ((v : Vertex) → s'.notes.go (s.it i).id v ≡ s.notes.go (s.it i).id v) → Leads s s'
  joint-leads F i m1 m2 size low others q1 q2 q3 q4 q5 q6 o1 o2 d oa ob dead p g N l = (
    later-back N l,
    λ r. weaken N _ (room s.left) s.n s.it
        (λ e. omega (
          arith,
          room-two (opp m1) m2 (start_opp m1 ∙ q3, ap s.left (finish_opp m1) ∙ o1) (q4, o2)
              (ap (λ f. same_link f (edge m2)) (edge_opp m1) ∙ d) e,
          ap (λ f. one (same_link e f)) (edge_opp m1),
        ))
        (lift_joint N (room s'.left) s.n s.it s'.it i (s'.it i) (s'.it s.n) m1 m2 low others refl refl q1 q2 (q3 ∙ sym q4) q5 q6
        (l.kept _ id-low dead ∙ p)
        (l.dead _ id-low dead _ ∙ g _ ∙ F.quiet _ _ oa)
        (l.dead _ id-low dead _ ∙ g _ ∙ F.quiet _ _ ob)
        (subst (λ z. Routed N (room s'.left) z s'.it) size r)),
  )
    where
      id-low : (s.it i).id < s'.next
      id-low = omega (arith, F.ids i low, K.more)
