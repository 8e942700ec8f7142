-- Two maps compared slot by slot: what the loop keeps, and what it tells of the maps of two lists' paths.
-- Assumes nothing.
use Rattle.std.specs.Prelude.{◌≡◌, refl, Bool, true, false, ◌&&◌, List, ◌↔◌, ℕ, zero, suc, ◌+◌, ◌-◌, ◌<◌, ◌≤◌, eqb, get_or}
use Rattle.std.proofs.Common.{sym, ◌∙◌, inl, inr, arith, eqb-true, eq-eqb}
use Rattle.count.specs.TruthLaws.{and_true, and_yes, and_assoc, eq_or_ne}
use Rattle.count.specs.Lists.{getD-rising}
use Rattle.call_rules.specs.Shape.{PathAt}
use Rattle.judge_walk.specs.Slots.{edge_at}
use Rattle.judge_walk.specs.EdgeMap.{net_on, map_of}
use Rattle.judge_alike.specs.MapsAlike.{all_from, maps_alike}

-- ── the slots in rising order ──
-- DEFINITION: those before i are compared, with the outcome t, and the others up to 2,048 are left
pub record Testing (a m : List ℕ) (i : ℕ) (t : Bool) : Type 0 where
  pub left : t && all_from i (2048 - i) (λ s. eqb (get_or a s 0) (get_or m s 0)) ≡ maps_alike a m

pub testing_start : {a m : List ℕ} → Testing a m 0 true
unfolding maps_alike
testing_start = record { left = refl }

pub testing_on : {a m : List ℕ} {i : ℕ} {t : Bool} → Testing a m i t → i < 2048 → {x y : ℕ} → x ≡ get_or a i 0 → y ≡ get_or m i 0
    → Testing a m (i + 1) (t && eqb x y)
unfolding all_from
testing_on {i = i} {t} h l f g =
    let n : 2048 - i ≡ suc (2048 - suc i) = omega arith in
    let r : i + 1 ≡ suc i = omega arith in
    let q = rw n at h.left in
    record { left = rw (f, g, r, and_assoc t _ _) q }

pub testing_done : {a m : List ℕ} {i : ℕ} {t : Bool} → Testing a m i t → 2048 ≤ i → t ≡ maps_alike a m
unfolding all_from
testing_done {i = i} {t} h l =
    let n : 2048 - i ≡ 0 = omega arith in
    go t ∙ (rw n at h.left)
  where
    go : (t : Bool) → t ≡ t && true
    go true = refl
    go false = refl

-- ── what the test says ──
all_exact : (k n : ℕ) (t : ℕ → Bool) → (all_from k n t ≡ true) ↔ ((j : ℕ) → k ≤ j → j < k + n → t j ≡ true)
unfolding all_from
all_exact k zero t = (λ e j p q. absurd (omega arith), λ h. refl)
all_exact k (suc n) t = (
  λ e j p q.
      let d = and_true (t k) (all_from (suc k) n t) e in
      elim (eq_or_ne k j) [
        | inl z ↦ rw (← z) d.0
        | inr z ↦ (all_exact (suc k) n t).0 d.1 j (omega arith) (omega arith)
      ],
  λ h. and_yes (t k) (all_from (suc k) n t) (h k (omega arith) (omega arith)) ((all_exact (suc k) n t).1 (λ j p q. h j (omega arith) (omega arith))),
)

slot_holds : (ps : List PathAt) (s : ℕ) → s < 2048 → get_or (map_of ps) s 0 ≡ net_on ps (edge_at s)
unfolding map_of
slot_holds ps s h = let e : 0 + s ≡ s = omega arith in rw e at (getD-rising (λ s. net_on ps (edge_at s)) 0 2048 s 0 h)

-- THE LAW: of two lists' paths, their maps are alike exactly where the same net uses the edge of every slot in both
pub maps_exact : (ps qs : List PathAt)
    → (maps_alike (map_of ps) (map_of qs) ≡ true) ↔ ((s : ℕ) → s < 2048 → net_on ps (edge_at s) ≡ net_on qs (edge_at s))
unfolding maps_alike
maps_exact ps qs =
    let t = all_exact 0 2048 (λ s. eqb (get_or (map_of ps) s 0) (get_or (map_of qs) s 0)) in (
      λ e s h. sym (slot_holds ps s h) ∙ (eqb-true _ _ (t.0 e s (omega arith) (omega arith)) ∙ slot_holds qs s h),
      λ h. t.1 (λ s p q. eq-eqb _ _ (slot_holds ps s (omega arith) ∙ (h s (omega arith) ∙ sym (slot_holds qs s (omega arith))))),
    )
