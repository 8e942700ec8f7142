-- Laws of trails: joined end to end, backwards, put back at their pair's place; and the unit edges that a corner takes with it.
-- Assumes nothing but, for the corner, one vertex less.
use Rattle.std.specs.Prelude.{◌≡◌, refl, true, false, List, [], ◌∷◌, ◌++◌, ℕ, suc, ◌+◌, ◌≤◌, eqb}
use Rattle.std.proofs.Common.{ap, ap₂, sym, subst, inl, inr, arith, eqb-true, eq-eqb}
use Rattle.count.specs.Truth.{one}
use Rattle.count.specs.TruthLaws.{bool, and_true, and_yes}
use Rattle.board.specs.Board.{at}
use Rattle.board.specs.declared.Vertex.{Vertex}
use Rattle.net.specs.declared.Pair.{Pair}
use Rattle.net.specs.Terminals.{same}
use Rattle.count.specs.Bits.{one_imply, eqb_sym}
use Rattle.corner.specs.Pairs.{Take, here, back, there}
use Rattle.corner.specs.Shape.{Shape, present, UL, Less}
use Rattle.corner.proofs.Presence.{less_still}
use Rattle.corner.specs.Trails.{Link, hor, ver, lo, hi, same_link, joined, Walk, used, Trail, Trails, total, right_link, down_link}

-- ── unit edges ──
pub link_self : (e : Link) → same_link e e ≡ true
link_self (hor l c) = and_yes _ _ (eq-eqb l l refl) (eq-eqb c c refl)
link_self (ver l c) = and_yes _ _ (eq-eqb l l refl) (eq-eqb c c refl)

pub link_true : (e f : Link) → same_link e f ≡ true → e ≡ f
link_true (hor l c) (hor m d) h = let k = and_true (eqb l m) (eqb c d) h in ap₂ hor (eqb-true l m k.0) (eqb-true c d k.1)
link_true (ver l c) (ver m d) h = let k = and_true (eqb l m) (eqb c d) h in ap₂ ver (eqb-true l m k.0) (eqb-true c d k.1)
link_true (hor l c) (ver m d) h = absurd (let y : ◌≡◌ {A = ℕ} 0 1 = ap one h in omega arith)
link_true (ver l c) (hor m d) h = absurd (let y : ◌≡◌ {A = ℕ} 0 1 = ap one h in omega arith)

pub link_sym : (e f : Link) → same_link e f ≡ same_link f e
link_sym (hor l c) (hor m d) = rw (eqb_sym l m, eqb_sym c d)
link_sym (hor l c) (ver m d) = refl
link_sym (ver l c) (hor m d) = refl
link_sym (ver l c) (ver m d) = rw (eqb_sym l m, eqb_sym c d)

-- of the two unit edges named by (l, c) one is e, if e is named by it
pub link_place : (e : Link) (l c : ℕ) → one (same_link (hor l c) e) + one (same_link (ver l c) e) ≡ one (same (at l c) (lo e))
link_place (hor m d) l c = omega arith
link_place (ver m d) l c = omega arith

-- ── trails end to end, and backwards ──
pub used_join : (e : Link) (es fs : List Link) → used e (es ++ fs) ≡ used e es + used e fs
unfolding used
used_join e [] fs = omega arith
used_join e (f ∷ es) fs = omega (arith, used_join e es fs)

pub walk_join : (u v w : Vertex) (es fs : List Link) → Walk u es v → Walk v fs w → Walk u (es ++ fs) w
walk_join u v w [] fs h k = subst (λ t. Walk t fs w) (sym h) k
walk_join u v w (e ∷ es) fs (inl h) k = inl (h.0, walk_join (hi e) v w es fs h.1 k)
walk_join u v w (e ∷ es) fs (inr h) k = inr (h.0, walk_join (lo e) v w es fs h.1 k)

unfoldable pub rev : List Link → List Link
rev [] = []
rev (e ∷ es) = rev es ++ (e ∷ [])

pub used_rev : (e : Link) (es : List Link) → used e (rev es) ≡ used e es
unfolding used rev
used_rev e [] = refl
used_rev e (f ∷ es) = omega (arith, used_rev e es, used_join e (rev es) (f ∷ []))

pub walk_rev : (u v : Vertex) (es : List Link) → Walk u es v → Walk v (rev es) u
unfolding rev
walk_rev u v [] h = sym h
walk_rev u v (e ∷ es) (inl h) = walk_join v (hi e) u (rev es) (e ∷ []) (walk_rev (hi e) v es h.1) (inr (refl, sym h.0))
walk_rev u v (e ∷ es) (inr h) = walk_join v (lo e) u (rev es) (e ∷ []) (walk_rev (lo e) v es h.1) (inl (refl, sym h.0))

-- ── put a trail back at its pair's place ──
pub put : (u v : Vertex) {ps rest : List Pair} → Take u v ps rest → Trail u v → Trails rest → Trails ps
put u v here t ts = (t, ts)
put u v back t ts = ((rev t.0, walk_rev u v t.0 t.1), ts)
put u v (there k) t ts = (ts.0, put u v k t ts.1)

pub put_total : (e : Link) (u v : Vertex) {ps rest : List Pair} (k : Take u v ps rest) (t : Trail u v) (ts : Trails rest)
    → total e ps (put u v k t ts) ≡ used e t.0 + total e rest ts
unfolding total put
put_total e u v here t ts = refl
put_total e u v back t ts = omega (arith, used_rev e t.0)
put_total e u v (there k) t ts = omega (arith, put_total e u v k t ts.1)

-- ── the edges of the corner come back ──
link_less : (S S' : Shape) (f e : Link) → ((g : Link) → joined S' g ≡ true → joined S g ≡ true) → joined S f ≡ true → joined S' f ≡ false
    → one (joined S' e) + one (same_link f e) ≤ one (joined S e)
link_less S S' f e mono was gone = elim (bool (same_link f e)) [
  | inl q ↦ let p = link_true f e q in
      let w : joined S e ≡ true = subst (λ g. joined S g ≡ true) p was in
      let g : joined S' e ≡ false = subst (λ g. joined S' g ≡ false) p gone in
      omega (arith, ap one w, ap one g, ap one q)
  | inr q ↦ omega (arith, ap one q, one_imply (joined S' e) (joined S e) (mono e))
]

pub joined_mono : (S S' : Shape) (u : Vertex) → Less S S' u → (g : Link) → joined S' g ≡ true → joined S g ≡ true
joined_mono S S' u L (hor l c) h = let k = and_true (present S' l c) (present S' l (suc c)) h in
    and_yes _ _ (less_still S S' u L l c k.0) (less_still S S' u L l (suc c) k.1)
joined_mono S S' u L (ver l c) h = let k = and_true (present S' l c) (present S' (suc l) c) h in
    and_yes _ _ (less_still S S' u L l c k.0) (less_still S S' u L (suc l) c k.1)

-- one edge and both edges
pub link_one : (S S' : Shape) → Less S S' (UL S) → (f e : Link) → lo f ≡ UL S → joined S f ≡ true
    → one (joined S' e) + one (same_link f e) ≤ one (joined S e)
link_one S S' L f e p was = link_less S S' f e (joined_mono S S' (UL S) L) was (gone f p)
  where
    gone : (f : Link) → lo f ≡ UL S → joined S' f ≡ false
    gone (hor l c) p = rw (subst (λ v. present S' v.line v.column ≡ false) (sym p) L.gone)
    gone (ver l c) p = rw (subst (λ v. present S' v.line v.column ≡ false) (sym p) L.gone)

pub link_two : (S S' : Shape) → Less S S' (UL S) → (e : Link) → joined S (right_link S) ≡ true → joined S (down_link S) ≡ true
    → one (joined S' e) + one (same_link (right_link S) e) + one (same_link (down_link S) e) ≤ one (joined S e)
link_two S S' L (hor l c) h k = omega (arith, link_one S S' L (right_link S) (hor l c) refl h)
link_two S S' L (ver l c) h k = omega (arith, link_one S S' L (down_link S) (ver l c) refl k)
