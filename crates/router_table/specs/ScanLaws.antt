-- One row more: what each scan knows after the next row.
-- Assumes nothing.
use Rattle.std.specs.Prelude.{◌≡◌, refl, Bool, true, false, List, ◌⊎◌, ℕ, ◌+◌, ◌/◌, ◌%◌, ◌≤◌, ◌<◌, get_or, eqb, leb}
use Rattle.std.proofs.Common.{ap, ◌∙◌, sym, inl, inr, arith, add-one}
use mathlib.Core.Bool.{not, beq}
use mir.Val.{bool_byte}
use Rattle.count.specs.Bits.{eq_case}
use Rattle.count.specs.Sum.{sum_suc, sum_zero}
use Rattle.corner.specs.Pairs.{apart}
use Rattle.router_table.specs.Scans.{Clear, cross_d, leave_d, depth_at, Least, LeastSo}

pub clear_more : (la lb : List ℕ) (v from i : ℕ) → Clear la lb v from i → (get_or la i 0 ≡ v → ⊥) → (get_or lb i 0 ≡ v → ⊥) → Clear la lb v from (i + 1)
clear_more la lb v from i h a b k l m = elim (eq_case k i) [
  | inl e ↦ rw e.2 (a, b)
  | inr e ↦ h k l (omega (arith, e.2))
]

-- two tests that answer differently
pub apart_is : {r : ℕ} (a b : Bool) → r ≡ bool_byte (not (beq a b)) → (r ≡ apart a b) × (r ≤ 1)
apart_is true true e = (e, omega arith)
apart_is true false e = (e, omega arith)
apart_is false true e = (e, omega arith)
apart_is false false e = (e, omega arith)

pub cross_none : (la lb : List ℕ) (x : ℕ) → cross_d la lb x 0 ≡ 0
unfolding cross_d
cross_none la lb x = sum_zero _

pub cross_next : (la lb : List ℕ) (x n : ℕ) → cross_d la lb x (n + 1) ≡ cross_d la lb x n + apart (leb (get_or la n 0 % 32) x) (leb (get_or lb n 0 % 32) x)
unfolding cross_d
cross_next la lb x n = rw (add-one n) (sum_suc n _)

pub leave_none : (la lb : List ℕ) (l : ℕ) → leave_d la lb l 0 ≡ 0
unfolding leave_d
leave_none la lb l = sum_zero _

pub leave_next : (la lb : List ℕ) (l n : ℕ) → leave_d la lb l (n + 1) ≡ leave_d la lb l n + apart (eqb (get_or la n 0 / 32) l) (eqb (get_or lb n 0 / 32) l)
unfolding leave_d
leave_next la lb l n = rw (add-one n) (sum_suc n _)

-- ── the least depth ──
pub least_none : (la lb : List ℕ) (n x : ℕ) (o : Bool) → LeastSo la lb n x o 0 n 32
least_none la lb n x o = record { at = inl (refl, refl); lowest = λ k l. absurd (omega arith) }

pub least_next : (la lb : List ℕ) (n x : ℕ) (o : Bool) (i r d e r' d' : ℕ) → e ≡ depth_at la lb x o i
    → ((e < d) × (r' ≡ i) × (d' ≡ e)) ⊎ ((d ≤ e) × (r' ≡ r) × (d' ≡ d)) → LeastSo la lb n x o i r d → LeastSo la lb n x o (i + 1) r' d'
least_next la lb n x o i r d e r' d' q (inl h) L = record {
  at = inr (
    omega (arith, h.1),
    h.2 ∙ q ∙ ap (depth_at la lb x o) (sym h.1),
    elim L.at [ inl g ↦ omega (arith, g.1, h.0, h.2) | inr g ↦ omega (arith, g.2, h.0, h.2) ],
  );
  lowest = λ k b. elim (eq_case k i) [
    | inl c ↦ rw c.2 (omega (arith, q, h.2))
    | inr c ↦
        omega (arith, h.0, h.2, L.lowest k (omega (arith, c.2)))
  ];
}
least_next la lb n x o i r d e r' d' q (inr h) L = record {
  at = elim L.at [
    | inl g ↦ inl (h.1 ∙ g.0, h.2 ∙ g.1)
    | inr g ↦
        inr (omega (arith, g.0, h.1), h.2 ∙ g.1 ∙ ap (depth_at la lb x o) (sym h.1), omega (arith, g.2, h.2))
  ];
  lowest = λ k b. elim (eq_case k i) [
    | inl c ↦ rw c.2 (omega (arith, q, h.0, h.2))
    | inr c ↦
        omega (arith, h.2, L.lowest k (omega (arith, c.2)))
  ];
}

pub least_all : (la lb : List ℕ) (n x : ℕ) (o : Bool) (r d : ℕ) → LeastSo la lb n x o n r d → Least la lb n x o r
least_all la lb n x o r d L = record {
  most = elim L.at [ inl h ↦ omega (arith, h.0) | inr h ↦ omega (arith, h.0) ];
  found = λ b. elim L.at [ inl h ↦ absurd (omega (arith, h.0)) | inr h ↦ omega (arith, h.1, h.2) ];
  lowest = λ b k l. elim L.at [ inl h ↦ absurd (omega (arith, h.0)) | inr h ↦ omega (arith, h.1, L.lowest k l) ];
  none = λ e k l. elim L.at [ inl h ↦ omega (arith, h.1, L.lowest k l) | inr h ↦ absurd (omega (arith, h.0)) ];
}
