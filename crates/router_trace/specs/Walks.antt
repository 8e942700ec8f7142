-- The walkers' steps: from what the calls of a walker write to what it writes itself.
-- Assumes nothing.
use Prim.Native.Nat.{ℕ, zero, suc, ◌+◌, ◌-◌, ◌<◌, ◌≤◌, ◌/◌, ◌%◌}
use Rattle.std.specs.Prelude.{◌≡◌, refl, List, [], ◌∷◌, ◌⊎◌, get_or}
use Rattle.std.proofs.Common.{subst, inl, inr}
use native.Mathlib.Omega.{arith}
use borrow.Author.Tests.{eq-eqb, ne_eqb, lt-ltb, le-ltb}
use Rattle.router_notes.specs.Limits.{last_pair, path_limit}
use Rattle.router_notes.specs.Arrays.{hop_d}
use Rattle.router_trace.specs.Hops.{line_d, column_d, opp_d}
use Rattle.router_trace.specs.Traces.{fore_d, back_d, path_d}
use Rattle.router_trace.specs.Writes.{Writes}
use Rattle.router_trace.specs.Writing.{writes_none, writes_join}

module _ (side vert : List ℕ) (k l c d at : ℕ) (out : List ℕ) where
  pub fore-none : (f : ℕ) → f ≡ 0 → Writes (fore_d side vert k f l c) at out at out
  unfolding fore_d
  fore-none f e = rw e (writes_none at out)

  pub fore-stop : (f : ℕ) → d ≡ hop_d side vert k l c → d ≡ 4 → Writes (fore_d side vert k f l c) at out at out
  unfolding fore_d
  fore-stop zero e h = writes_none at out
  fore-stop (suc f) e h = rw (← e, eq-eqb d 4 h) (writes_none at out)

  pub fore-step : {r s : ℕ} {out1 out2 : List ℕ} (f l' c' : ℕ) → (f ≡ 0 → ⊥) → d ≡ hop_d side vert k l c → (d ≡ 4 → ⊥)
      → l' ≡ line_d d l → c' ≡ column_d d c → Writes (d ∷ []) at out r out1
      → Writes (fore_d side vert k (f - 1) l' c') r out1 s out2 → Writes (fore_d side vert k f l c) at out s out2
  unfolding fore_d
  fore-step zero l' c' z e n el ec x w = absurd (z refl)
  fore-step {r} {s} {out1} {out2} (suc f) l' c' z e n el ec x w =
      let q : suc f - 1 ≡ f = omega arith in
      rw (← e, ne_eqb d 4 n, ← el, ← ec) (writes_join x (subst (λ g. Writes (fore_d side vert k g l' c') r out1 s out2) q w))

  pub back_none : (f : ℕ) → f ≡ 0 → Writes (back_d side vert k f l c) at out at out
  unfolding back_d
  back_none f e = rw e (writes_none at out)

  pub back-stop : (f : ℕ) → d ≡ hop_d side vert k l c → d ≡ 4 → Writes (back_d side vert k f l c) at out at out
  unfolding back_d
  back-stop zero e h = writes_none at out
  back-stop (suc f) e h = rw (← e, eq-eqb d 4 h) (writes_none at out)

  pub back_step : {r s : ℕ} {out1 out2 : List ℕ} (f l' c' o : ℕ) → (f ≡ 0 → ⊥) → d ≡ hop_d side vert k l c → (d ≡ 4 → ⊥)
      → l' ≡ line_d d l → c' ≡ column_d d c → o ≡ opp_d d → Writes (back_d side vert k (f - 1) l' c') at out r out1
      → Writes (o ∷ []) r out1 s out2 → Writes (back_d side vert k f l c) at out s out2
  unfolding back_d
  back_step zero l' c' o z e n el ec eo w x = absurd (z refl)
  back_step {r} {s} {out1} {out2} (suc f) l' c' o z e n el ec eo w x =
      let q : suc f - 1 ≡ f = omega arith in
      rw (← e, ne_eqb d 4 n, ← el, ← ec, ← eo) (writes_join (subst (λ g. Writes (back_d side vert k g l' c') at out r out1) q w) x)

module _ (side vert half s1 s2 d1 d2 : List ℕ) (k at a b h : ℕ) (out : List ℕ) (ea : a ≡ get_or s1 k 0) (eb : b ≡ get_or s2 k 0)
    (eh : h ≡ get_or half k 0) where
  pub path-none : (f : ℕ) → f ≡ 0 → Writes (path_d side vert half s1 s2 d1 d2 f k) at out at out
  unfolding path_d
  path-none f e = rw e (writes_none at out)

  pub path-whole : {p r : ℕ} {o1 o2 : List ℕ} (f : ℕ) → (f ≡ 0 → ⊥) → (h ≡ 0) ⊎ (last_pair ≤ h)
      → Writes (fore_d side vert k path_limit (a / 32) (a % 32)) at out p o1
      → Writes (back_d side vert k path_limit (b / 32) (b % 32)) p o1 r o2 → Writes (path_d side vert half s1 s2 d1 d2 f k) at out r o2
  unfolding path_d
  path-whole zero z q x y = absurd (z refl)
  path-whole (suc f) z (inl q) x y = rw (← ea, ← eb, ← eh, eq-eqb h 0 q) (writes_join x y)
  path-whole (suc f) z (inr q) x y = rw (← ea, ← eb, ← eh, ne_eqb h 0 (λ e. omega arith), le-ltb h last_pair q) (writes_join x y)

  pub path-parted : {p q r s t u : ℕ} {o1 o2 o3 o4 o5 o6 : List ℕ} (f x y : ℕ) → (f ≡ 0 → ⊥) → (h ≡ 0 → ⊥) → h < last_pair → x ≡ get_or d1 k 0
      → y ≡ get_or d2 k 0
      → Writes (fore_d side vert k path_limit (a / 32) (a % 32)) at out p o1
      → Writes (path_d side vert half s1 s2 d1 d2 (f - 1) h) p o1 q o2 → Writes (x ∷ []) q o2 r o3 → Writes (y ∷ []) r o3 s o4
      → Writes (path_d side vert half s1 s2 d1 d2 (f - 1) (h + 1)) s o4 t o5
      → Writes (back_d side vert k path_limit (b / 32) (b % 32)) t o5 u o6 → Writes (path_d side vert half s1 s2 d1 d2 f k) at out u o6
  unfolding path_d
  path-parted zero x y z n l ex ey w1 w2 w3 w4 w5 w6 = absurd (z refl)
  path-parted {p} {q} {r} {s} {t} {u} {o1} {o2} {o3} {o4} {o5} {o6} (suc f) x y z n l ex ey w1 w2 w3 w4 w5 w6 =
      let g : suc f - 1 ≡ f = omega arith in
      rw (← ea, ← eb, ← eh, ne_eqb h 0 n, lt-ltb h last_pair l, ← ex, ← ey)
      (writes_join w1 (writes_join (writes_join (subst (λ i. Writes (path_d side vert half s1 s2 d1 d2 i h) p o1 q o2) g w2)
      (writes_join w3 (writes_join w4 (subst (λ i. Writes (path_d side vert half s1 s2 d1 d2 i (h + 1)) s o4 t o5) g w5)))) w6))
