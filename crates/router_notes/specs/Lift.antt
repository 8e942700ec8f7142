-- A routing of the pairs after a step gives one of the pairs before it, read off the same notes: one end moved, a pair divided,
-- pairs added, a trivial pair dropped. Assumes what the notes say of the pair that changed.
use Rattle.std.specs.Prelude.{◌≡◌, refl, List, [], ◌∷◌, ◌++◌, ℕ, zero, suc, ◌+◌, ◌-◌, ◌≤◌, ◌<◌, eqb}
use Rattle.std.proofs.Common.{ap, ◌∙◌, sym, subst, append-nil, inl, inr, arith}
use Rattle.count.specs.Truth.{one}
use Rattle.count.specs.TruthLaws.{eq_or_ne}
use Rattle.count.specs.Bits.{eq_case}
use Rattle.count.specs.Sum.{sum, sum_eq, sum_suc}
use Rattle.corner.specs.Trails.{Link, same_link}
use Rattle.router_notes.specs.Notes.{
  Move,
  edge,
  start,
  finish,
  opp,
  Goes,
  uses,
  revm,
  Item,
  Notes,
  Path,
  Routed,
  Moved,
  stay,
  on,
  whole,
  parted,
  stop,
  plain,
  joint,
}
use Rattle.router_notes.specs.Update.{pick?, upd, upd_same, upd_other, sum_change}
use Rattle.router_notes.specs.Moves.{uses_cons, uses_none, uses_join, goes_join, start_opp, finish_opp, uses_end, path_first, path_second}

pub weaken : (N : Notes) (B C : Link → ℕ) (n : ℕ) (it : ℕ → Item) → ((e : Link) → B e ≤ C e) → Routed N B n it → Routed N C n it
weaken N B C n it h R = record { ms = R.ms; goes = R.goes; reads = R.reads; bound = λ e. omega (arith, R.bound e, h e) }

-- one item's path is another one
module _ (N : Notes) (B : Link → ℕ) (n : ℕ) (it it' : ℕ → Item) (i : ℕ) (low : i < n) (others : (j : ℕ) → j < n → (j ≡ i → ⊥) → it' j ≡ it j)
    (R : Routed N B n it') where
  pub replace : (C : Link → ℕ) (ns : List Move) → Goes (it i).a ns (it i).b → Path N (it i) ns
      → ((e : Link) → B e + uses e ns ≤ C e + uses e (R.ms i)) → Routed N C n it
  replace C ns g p h = record {
    ms = upd i ns R.ms;
    goes = λ j l. elim (eq_case j i) [
      | inl q ↦ rw (q.0, q.2) g
      | inr q ↦ rw q.0 (subst (λ x. Goes x.a (R.ms j) x.b) (others j l q.2) (R.goes j l))
    ];
    reads = λ j l. elim (eq_case j i) [
      | inl q ↦ rw (q.0, q.2) p
      | inr q ↦ rw q.0 (subst (λ x. Path N x (R.ms j)) (others j l q.2) (R.reads j l))
    ];
    bound = λ e. omega (
      arith,
      sum_change n i (λ j. uses e (upd i ns R.ms j)) (λ j. uses e (R.ms j)) low (λ j q. ap (uses e) (upd_other i ns R.ms j q)),
      ap (uses e) (upd_same i ns R.ms),
      R.bound e,
      h e,
    );
  }

pub lift_moved : (N : Notes) (B : Link → ℕ) (n : ℕ) (it it' : ℕ → Item) (i : ℕ) (m : Move) → i < n → ((j : ℕ) → j < n → (j ≡ i → ⊥) → it' j ≡ it j)
    → Moved (it i) m (it' i) → N.go (it i).id (start m) ≡ on m → Routed N B n it' → Routed N (λ e. B e + one (same_link e (edge m))) n it
lift_moved N B n it it' i m low others (inl h) g R =
    replace N B n it it' i low others R _ (m ∷ R.ms i)
    (h.0, subst (λ x. Goes x.a (R.ms i) x.b) h.1 (R.goes i low))
    (path_first N (it i).id (it i).a (it i).b m (R.ms i) (rw h.0 g) (subst (λ x. Path N x (R.ms i)) h.1 (R.reads i low)))
    (λ e. omega (arith, uses_cons e m (R.ms i)))
lift_moved N B n it it' i m low others (inr h) g R =
    let w = subst (λ x. Goes x.a (R.ms i) x.b) h.1 (R.goes i low) in
    replace N B n it it' i low others R _ (R.ms i ++ (opp m ∷ []))
    (goes_join (it i).a (finish m) (it i).b (R.ms i) (opp m ∷ []) w (sym (start_opp m), finish_opp m ∙ sym h.0))
    (path_second N (it i).id (it i).b (it i).a m (R.ms i) (rw h.0 g) (subst (λ x. Path N x (R.ms i)) h.1 (R.reads i low)))
    (λ e. omega (arith, uses_end e m (R.ms i)))

-- the last items are not asked for
sum_fewer : (m n : ℕ) (f : ℕ → ℕ) → m ≤ n → sum m f ≤ sum n f
sum_fewer m zero f h = let e : m ≡ 0 = omega arith in rw e (omega arith)
sum_fewer m (suc n) f h = elim (eq_or_ne m (suc n)) [
  | inl e ↦ rw e (omega arith)
  | inr e ↦ omega (arith, sum_fewer m n f (omega (arith, e)), sum_suc n f)
]

pub lift_fewer : (N : Notes) (B : Link → ℕ) (m n : ℕ) (it : ℕ → Item) → m ≤ n → Routed N B n it → Routed N B m it
lift_fewer N B m n it h R = record {
  ms = R.ms;
  goes = λ i l. R.goes i (omega arith);
  reads = λ i l. R.reads i (omega arith);
  bound = λ e. omega (arith, R.bound e, sum_fewer m n (λ i. uses e (R.ms i)) h);
}

-- an item was divided: its first half stands in its place, the second is the last
pub lift_joint : (N : Notes) (B : Link → ℕ) (n : ℕ) (it it' : ℕ → Item) (i : ℕ) (h j : Item) (m1 m2 : Move) → i < n
    → ((j : ℕ) → j < n → (j ≡ i → ⊥) → it' j ≡ it j) → it' i ≡ h → it' n ≡ j
    → (h.a ≡ (it i).a) → (h.b ≡ start m1) → (finish m1 ≡ start m2) → (finish m2 ≡ j.a) → (j.b ≡ (it i).b)
    → N.part (it i).id ≡ parted h m1 m2 j → N.go (it i).id (it i).a ≡ stay → N.go (it i).id (it i).b ≡ stay
    → Routed N B (suc n) it' → Routed N (λ e. B e + one (same_link e (edge m1)) + one (same_link e (edge m2))) n it
unfolding revm
lift_joint N B n it it' i h j m1 m2 low others e1 e2 q1 q2 q3 q4 q5 p s1 s2 R =
    let xs = R.ms i in let ys = R.ms n in
    let g1 : Goes h.a xs h.b = subst (λ x. Goes x.a xs x.b) e1 (R.goes i (omega arith)) in
    let g2 : Goes j.a ys j.b = subst (λ x. Goes x.a ys x.b) e2 (R.goes n (omega arith)) in
    let p1 : Path N h xs = subst (λ x. Path N x xs) e1 (R.reads i (omega arith)) in
    let p2 : Path N j ys = subst (λ x. Path N x ys) e2 (R.reads n (omega arith)) in
    let g3 : Goes (finish m2) ys (it i).b = subst (λ v. Goes (finish m2) ys v) q5 (subst (λ v. Goes v ys j.b) (sym q4) g2) in
    replace N (λ e. B e - uses e ys) n it it' i low others (lift-less e1) _ (xs ++ (m1 ∷ m2 ∷ ys))
    (goes_join (it i).a h.b (it i).b xs (m1 ∷ m2 ∷ ys) (subst (λ v. Goes v xs h.b) q1 g1) (q2, (q3, g3)))
    (joint p (stop s1) (stop s2) p1 p2 (sym (append-nil (xs ++ (m1 ∷ m2 ∷ ys)))))
    (λ e. omega (arith, uses_join e xs (m1 ∷ m2 ∷ ys), uses_cons e m1 (m2 ∷ ys), uses_cons e m2 ys, R.bound e, sum_suc n (λ k. uses e (R.ms k))))
  where
    lift-less : it' i ≡ h → Routed N (λ e. B e - uses e (R.ms n)) n it'
    lift-less q = record {
      ms = R.ms;
      goes = λ k l. R.goes k (omega arith);
      reads = λ k l. R.reads k (omega arith);
      bound = λ e. omega (arith, R.bound e, sum_suc n (λ k. uses e (R.ms k)));
    }

-- a trivial item is dropped: the last takes its place
pub lift_drop : (N : Notes) (B : Link → ℕ) (n : ℕ) (it it' : ℕ → Item) (i : ℕ) → i ≤ n
    → ((j : ℕ) → j < n → (j ≡ i → ⊥) → it' j ≡ it j) → (i < n → it' i ≡ it n) → (it i).a ≡ (it i).b
    → N.part (it i).id ≡ whole → N.go (it i).id (it i).a ≡ stay → N.go (it i).id (it i).b ≡ stay → Routed N B n it' → Routed N B (suc n) it
unfolding revm
lift_drop N B n it it' i low others moved triv p s1 s2 R = record {
  ms = new;
  goes = λ j l. by-case j (λ x ns. Goes x.a ns x.b) l triv R.goes;
  reads = λ j l. by-case j (Path N) l (plain p (stop s1) (stop s2) refl) R.reads;
  bound = λ e. elim (eq_case i n) [
    | inl q ↦ omega (
      arith,
      sum_suc n (λ k. uses e (new k)),
      sum_eq n (λ k. uses e (new k)) (λ k. uses e (R.ms k))
          (λ k l. ap (uses e) (upd_other i [] (upd n (R.ms i) R.ms) k (λ c. omega (arith, q.2))
          ∙ upd_other n (R.ms i) R.ms k (λ c. omega arith))),
      subst (λ k. uses e (new k) ≡ 0) q.2 (none e),
      R.bound e,
    )
    | inr q ↦ omega (
      arith,
      sum_suc n (λ k. uses e (new k)),
      sum_change n i (λ k. uses e (lowered k)) (λ k. uses e (R.ms k)) (omega (arith, q.2)) (λ k c. ap (uses e) (upd_other i [] R.ms k c)),
      sum_eq n (λ k. uses e (new k)) (λ k. uses e (lowered k))
          (λ k l. ap (λ t. uses e (pick? (eqb k i) [] t)) (upd_other n (R.ms i) R.ms k (λ c. omega arith))),
      ap (uses e) (upd_other i [] (upd n (R.ms i) R.ms) n (λ c. q.2 (sym c)) ∙ upd_same n (R.ms i) R.ms),
      ap (uses e) (upd_same i [] R.ms),
      uses_none e,
      R.bound e,
    )
  ];
}
  where
    new : ℕ → List Move
    new = upd i [] (upd n (R.ms i) R.ms)

    lowered : ℕ → List Move
    lowered = upd i [] R.ms

    none : (e : Link) → uses e (new i) ≡ 0
    none e = ap (uses e) (upd_same i [] (upd n (R.ms i) R.ms)) ∙ uses_none e

    by-case : (j : ℕ) (P : Item → List Move → Type 0) → j < suc n → P (it i) [] → ((k : ℕ) → k < n → P (it' k) (R.ms k)) → P (it j) (new j)
    by-case j P l h f = elim (eq_case j i) [
      | inl q ↦ rw (q.0, q.2) h
      | inr q ↦ elim (eq_case j n) [
        | inl r ↦ rw (q.0, r.0) (subst (λ x. P x (R.ms i)) (moved (omega (arith, q.2, r.2)) ∙ ap it (sym r.2))
            (f i (omega (arith, q.2, r.2))))
        | inr r ↦ rw (q.0, r.0) (subst (λ x. P x (R.ms j)) (others j (omega (arith, r.2)) q.2) (f j (omega (arith, r.2))))
      ]
    ]
