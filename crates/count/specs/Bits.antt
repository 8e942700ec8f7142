-- Tests as numbers: cases by a test on two numbers, and laws of truth values that count as 0 or 1.
-- Assumes nothing.
use Rattle.std.specs.Prelude.{◌≡◌, refl, Bool, true, false, ◌&&◌, ◌⊎◌, ℕ, suc, ◌+◌, ◌≤◌, ◌<◌, ◌*◌, leb, eqb}
use Rattle.std.proofs.Common.{ap, ◌∙◌, sym, inl, inr, arith, leb-true, leb-false, eqb-true, le-leb, eq-eqb}
use Rattle.std.proofs.lemmas.Bool.{eqb-false, lt-leb}
use Rattle.count.specs.Truth.{one}
use Rattle.count.specs.TruthLaws.{bool, bool_eq}

-- a test that passes, and what it tells; a test that fails
abbrev pub Yes : Bool → Type 0 → Type 0
Yes b A = (b ≡ true) × (one b ≡ 1) × A

abbrev pub No : Bool → Type 0 → Type 0
No b A = (b ≡ false) × (one b ≡ 0) × A

pub le_case : (m n : ℕ) → Yes (leb m n) (m ≤ n) ⊎ No (leb m n) (n < m)
le_case m n = elim (bool (leb m n)) [ inl e ↦ inl (e, ap one e, leb-true m n e) | inr e ↦ inr (e, ap one e, leb-false m n e) ]

pub eq_case : (m n : ℕ) → Yes (eqb m n) (m ≡ n) ⊎ No (eqb m n) (m ≡ n → ⊥)
eq_case m n = elim (bool (eqb m n)) [ inl e ↦ inl (e, ap one e, eqb-true m n e) | inr e ↦ inr (e, ap one e, eqb-false m n e) ]

-- ── one truth value as a number ──
pub one_true : (b : Bool) → one b ≡ 1 → b ≡ true
one_true true h = refl
one_true false h = absurd (omega arith)

pub one_false : (b : Bool) → (one b ≡ 1 → ⊥) → b ≡ false
one_false true h = absurd (h refl)
one_false false h = refl

pub one_zero : (b : Bool) → one b ≡ 0 → b ≡ false
one_zero true h = absurd (omega arith)
one_zero false h = refl

pub one_imply : (a b : Bool) → (a ≡ true → b ≡ true) → one a ≤ one b
one_imply true b h = omega (arith, ap one (h refl))
one_imply false b h = omega arith

-- ── and ──
-- conjunction of bits, as linear facts
pub and_bit : (a b : Bool) → (one (a && b) ≤ one a) × (one (a && b) ≤ one b) × (one a + one b ≤ one (a && b) + 1)
and_bit true true = omega arith
and_bit true false = omega arith
and_bit false true = omega arith
and_bit false false = omega arith

pub and_comm : (a b : Bool) → a && b ≡ b && a
and_comm true true = refl
and_comm true false = refl
and_comm false true = refl
and_comm false false = refl

pub and_off : (a : Bool) → one (a && false) ≡ 0
and_off true = refl
and_off false = refl

pub and_on : (a : Bool) → one (a && true) ≡ one a
and_on true = refl
and_on false = refl

-- ── tests on two numbers ──
pub eqb_sym : (m n : ℕ) → eqb m n ≡ eqb n m
eqb_sym m n = bool_eq _ _ (λ e. eq-eqb n m (sym (eqb-true m n e))) (λ e. eq-eqb m n (sym (eqb-true n m e)))

pub eqb_suc : (m n : ℕ) → eqb (suc m) (suc n) ≡ eqb m n
eqb_suc m n = bool_eq _ _ (λ e. eq-eqb m n (omega (arith, eqb-true (suc m) (suc n) e))) (λ e. eq-eqb (suc m) (suc n) (ap suc (eqb-true m n e)))

pub leb_suc : (m n : ℕ) → leb (suc m) (suc n) ≡ leb m n
leb_suc m n = bool_eq _ _ (λ e. le-leb m n (omega (arith, leb-true (suc m) (suc n) e))) (λ e. le-leb (suc m) (suc n) (omega (arith, leb-true m n e)))

-- to be at most r is the same for t and t + 1, unless r is t
pub leb_next : (t r : ℕ) → (r ≡ t → ⊥) → leb t r ≡ leb (suc t) r
leb_next t r h = elim (le_case t r) [
  | inl a ↦ a.0 ∙ sym (le-leb (suc t) r (omega (arith, a.2, h)))
  | inr a ↦ a.0 ∙ sym (lt-leb (suc t) r (omega (arith, a.2)))
]

pub le_mono : (l m n : ℕ) → m ≤ n → one (leb l m) ≤ one (leb l n)
le_mono l m n h = one_imply (leb l m) (leb l n) (λ e. le-leb l n (omega (arith, leb-true l m e)))

-- at most l + 1: at most l, or just l + 1
pub le_suc_bit : (j l : ℕ) → one (leb j (suc l)) ≡ one (leb j l) + one (eqb j (suc l))
le_suc_bit j l = elim (le_case j l) [
  | inl a ↦ elim (le_case j (suc l)) [
    | inl b ↦ elim (eq_case j (suc l)) [ inl e ↦ omega arith | inr e ↦ omega arith ]
    | inr b ↦ omega arith
  ]
  | inr a ↦ elim (le_case j (suc l)) [
    | inl b ↦ elim (eq_case j (suc l)) [ inl e ↦ omega arith | inr e ↦ omega (arith, e.2) ]
    | inr b ↦ elim (eq_case j (suc l)) [ inl e ↦ omega arith | inr e ↦ omega arith ]
  ]
]

-- below k + 1: below k, or just k
pub below_suc : (e : Bool) (k c : ℕ) → one (e && leb (suc c) (suc k)) ≡ one (e && leb (suc c) k) + one (e && eqb k c)
below_suc false k c = refl
below_suc true k c = elim (le_case (suc c) (suc k)) [
  | inl a ↦ elim (le_case (suc c) k) [
    | inl b ↦ elim (eq_case k c) [ inl e ↦ omega arith | inr e ↦ omega arith ]
    | inr b ↦ elim (eq_case k c) [ inl e ↦ omega arith | inr e ↦ omega (arith, e.2) ]
  ]
  | inr a ↦ elim (le_case (suc c) k) [
    | inl b ↦ omega arith
    | inr b ↦ elim (eq_case k c) [ inl e ↦ omega arith | inr e ↦ omega arith ]
  ]
]

-- two digits in base 32
pub digits_apart : (l c m d : ℕ) → c < 32 → d < 32 → l * 32 + c ≡ m * 32 + d → (l ≡ m) × (c ≡ d)
digits_apart l c m d h k e = let p : l ≡ m = omega arith in (p, omega arith)
