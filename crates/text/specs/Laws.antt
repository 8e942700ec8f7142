-- Digits as the library for numbers in text gives them, and texts put one behind the other.
-- Assumes nothing.
use Rattle.std.specs.Prelude.{◌≡◌, ℕ, zero, suc, ◌+◌, ◌-◌, ◌*◌, ◌/◌, ◌%◌, ◌^◌, ◌≤◌, ◌<◌, length, take, get_or, set}
use Rattle.std.proofs.Math.Path.{refl, ap, sym, subst⁻¹}
use Rattle.std.proofs.Common.{◌∙◌, inl, inr, pow-suc, add-one, arith, length-append, take-suc, take_all, length-take-le, lt-ltb, le-ltb}
use mathlib.Core.List.{List, [], ◌∷◌, ◌++◌, flat_map, append_assoc, append-nil}
use Rattle.std.proofs.Math.Nat.{pow-le-pow_right}
use Rattle.std.proofs.Math.Seq.{paste, paste-suc}
use Rattle.std.proofs.lemmas.List.Edits.{take-paste}
use Rattle.io.specs.Digits.{last_digits, IsDigitCount, hex_digit_ascii}
use Rattle.count.specs.TruthLaws.{le_or_lt}
use Rattle.text.specs.Line.{digits_of, decimal, spaced, line_of}
use Rattle.text.specs.Put.{Put, Holds}

-- ── digits ──
below_ten : (d : ℕ) → d < 10 → hex_digit_ascii d ≡ 48 + d
below_ten d h = rw (lt-ltb d 10 h) refl

below_power : (k : ℕ) → k < 10 ^ k
below_power zero = omega arith
below_power (suc k) = omega (arith, below_power k, pow-suc 10 k)

digits_are : (k most n : ℕ) → suc k ≤ most → n < 10 ^ suc k → (1 < suc k → 10 ^ k ≤ n) → last_digits 10 (suc k) n ≡ digits_of most n
unfolding digits_of
digits_are k zero n h l g = absurd (omega arith)
digits_are zero (suc most) n h l g =
    let s : n < 10 = l in
    let m : n % 10 ≡ n = omega arith in
    rw (m, lt-ltb n 10 s) refl
digits_are (suc k) (suc most) n h l g =
    let p : 10 ^ suc k ≡ 10 ^ k * 10 = pow-suc 10 k in
    let q : 10 ^ suc (suc k) ≡ 10 ^ suc k * 10 = pow-suc 10 (suc k) in
    let w : 10 ^ suc k ≤ n = g (omega arith) in
    let u : 0 < 10 ^ k = omega (arith, below_power k) in
    rw (le-ltb n 10 (omega arith), below_ten (n % 10) (omega arith))
    (ap (λ (ds : List ℕ). ds ++ ((48 + n % 10) ∷ [])) (digits_are k most (n / 10) (omega arith) (omega arith) (λ o. omega arith)))

pub decimal_is : (n k : ℕ) → IsDigitCount 10 1 n k → last_digits 10 k n ≡ decimal n
unfolding decimal
decimal_is n zero F = absurd (omega arith)
decimal_is n (suc zero) F = digits_are 0 (suc n) n (omega arith) F.1 (λ o. absurd (omega arith))
decimal_is n (suc (suc k)) F =
    let e : suc (suc k) - 1 ≡ suc k = omega arith in
    let w : 10 ^ suc k ≤ n = rw e at (F.2 (omega arith)) in
    digits_are (suc k) (suc n) n (omega (arith, below_power (suc k))) F.1 (λ o. w)

-- a number of 64 bits has at most 20 digits
pub few_digits : {n k : ℕ} → n < 2 ^ 64 → IsDigitCount 10 1 n k → k ≤ 20
few_digits {n} {k} h F = elim (le_or_lt k 20) [
  | inl l ↦ l
  | inr l ↦ absurd (omega (arith, F.2 (omega arith), pow-le-pow_right {n = 10} (omega arith) {i = 20} {j = k - 1} (omega arith)))
]

-- ── texts one behind the other ──
pub put_none : (at : ℕ) (before : List ℕ) → Put [] at before at before
put_none at before = record { ends = omega arith; bytes = sym (append-nil (take at before)) }

pub put_then : {t u : List ℕ} {at i j : ℕ} {b c d : List ℕ} → Put t at b i c → Put u i c j d → Put (t ++ u) at b j d
put_then {t} {u} {at} {b = b} P Q = record {
  ends = omega (arith, P.ends, Q.ends, length-append t u);
  bytes = Q.bytes ∙ rw P.bytes (append_assoc (take at b) t u);
}

-- bytes copied from index at on
pub copied : (s before : List ℕ) (at i : ℕ) {out : List ℕ} → at + i < length before → i < length s → out ≡ paste before at s i
    → set out (at + i) (get_or s i 0) ≡ paste before at s (i + 1)
copied s before at i h l e = rw (e, add-one i) (paste-suc before at s i 0 h l)

pub put_copied : (s before : List ℕ) (at i : ℕ) {out : List ℕ} → at + length s ≤ length before → i ≡ length s → out ≡ paste before at s i
    → Put s at before (at + length s) out
put_copied s before at i h l e = record {
  ends = refl;
  bytes =
      let a : take i s ≡ s = take_all i s (omega arith) in
      rw (e, ← l) (take-paste before at s i (omega arith) (omega arith) ∙ ap (λ (t : List ℕ). take at before ++ t) a);
}

-- ── a text for each element of a list ──
module _ (f : ℕ → List ℕ) where
  flat-more : (ms ns : List ℕ) → flat_map f (ms ++ ns) ≡ flat_map f ms ++ flat_map f ns
  unfolding flat_map
  flat-more [] ns = refl
  flat-more (m ∷ ms) ns = ap (λ (t : List ℕ). f m ++ t) (flat-more ms ns) ∙ sym (append_assoc (f m) (flat_map f ms) (flat_map f ns))

  flat-one : (n : ℕ) → flat_map f (n ∷ []) ≡ f n
  unfolding flat_map
  flat-one n = append-nil (f n)

  pub put_first : (ns : List ℕ) (at : ℕ) (b : List ℕ) → Put (flat_map f (take 0 ns)) at b at b
  unfolding flat_map
  put_first ns at b = put_none at b

  pub put_next : (ns : List ℕ) (k : ℕ) → k < length ns → {at i j : ℕ} {b c d : List ℕ}
      → Put (flat_map f (take k ns)) at b i c → Put (f (get_or ns k 0)) i c j d → Put (flat_map f (take (k + 1) ns)) at b j d
  put_next ns k h {at} {j = j} {b = b} {d = d} P Q =
      let e : flat_map f (take (k + 1) ns) ≡ flat_map f (take k ns) ++ f (get_or ns k 0) =
      rw (add-one k, take-suc ns k 0 h)
      (flat-more (take k ns) (get_or ns k 0 ∷ []) ∙ ap (λ (t : List ℕ). flat_map f (take k ns) ++ t) (flat-one (get_or ns k 0))) in
      subst⁻¹ (λ (t : List ℕ). Put t at b j d) e (put_then P Q)

-- ── a number, a line ──
pub put_spaced : {n k : ℕ} {ds : List ℕ} → IsDigitCount 10 1 n k → ds ≡ last_digits 10 k n → {at i j : ℕ} {b c d : List ℕ}
    → Put (32 ∷ []) at b i c → Put ds i c j d → Put (spaced n) at b j d
put_spaced {n} {k} F e P Q = put_then P (rw (e ∙ decimal_is n k F) at Q)

-- a whole text at the start of a buffer
pub whole : {t : List ℕ} {k : ℕ} {b e : List ℕ} → Put t 0 b k e → k ≤ length e → Holds t k e
whole {k = k} {e = e} P h = ((h, sym (length-take-le k e h)), P.bytes)

pub put-line : {name : List ℕ} (ns : List ℕ) {at i j k : ℕ} {b c d e : List ℕ} → Put name at b i c → Put (flat_map spaced ns) i c j d
    → Put (10 ∷ []) j d k e → Put (line_of name ns) at b k e
unfolding line_of
put-line ns P Q R = put_then P (put_then Q R)
