-- Two or three truth values at a time: which of two ends lie in a set, and what a detour costs.
-- Assumes nothing.
use Rattle.std.specs.Prelude.{◌≡◌, refl, Bool, true, false, not, ℕ, suc, ◌+◌, ◌*◌, ◌≤◌, leb}
use Rattle.std.proofs.Common.{ap, arith, le-leb}
use Rattle.std.proofs.lemmas.Bool.{lt-leb}
use Rattle.count.specs.Truth.{one}
use Rattle.count.specs.Bits.{leb_next}
use Rattle.corner.specs.Pairs.{apart, both, astray}

-- ── apart ──
pub apart_sym : (a b : Bool) → apart a b ≡ apart b a
apart_sym true true = refl
apart_sym true false = refl
apart_sym false true = refl
apart_sym false false = refl

pub apart_same : (a b : Bool) → a ≡ b → apart a b ≡ 0
apart_same a b e = rw e (go b)
  where
    go : (c : Bool) → apart c c ≡ 0
    go true = refl
    go false = refl

pub apart_le : (a b : Bool) → apart a b ≤ 1
apart_le true true = omega arith
apart_le true false = omega arith
apart_le false true = omega arith
apart_le false false = omega arith

pub apart_not : (a b : Bool) → apart (not a) (not b) ≡ apart a b
apart_not true true = refl
apart_not true false = refl
apart_not false true = refl
apart_not false false = refl

pub both_sym : (a b : Bool) → both a b ≡ both b a
both_sym true true = refl
both_sym true false = refl
both_sym false true = refl
both_sym false false = refl

pub apart_here : (t : ℕ) → apart (leb t t) (leb (suc t) t) ≡ 1
apart_here t = rw (le-leb t t (omega arith), lt-leb (suc t) t (omega arith))

pub apart_elsewhere : (t r : ℕ) → (r ≡ t → ⊥) → apart (leb t r) (leb (suc t) r) ≡ 0
apart_elsewhere t r h = apart_same (leb t r) (leb (suc t) r) (leb_next t r h)

-- ── a detour by w instead of the way from u to s straight ──
pub detour : (u w s : Bool) → apart u w + apart w s ≡ apart u s + 2 * astray u w s
detour true true true = refl
detour true true false = refl
detour true false true = refl
detour true false false = refl
detour false true true = refl
detour false true false = refl
detour false false true = refl
detour false false false = refl

pub astray_start : (u w s : Bool) → u ≡ w → astray u w s ≡ 0
astray_start true true s e = refl
astray_start true false s e = cc
astray_start false true s e = cc
astray_start false false s e = refl

pub astray_end : (u w s : Bool) → s ≡ w → astray u w s ≡ 0
astray_end true true s e = refl
astray_end true false s e = ap one e
astray_end false true s e = rw e
astray_end false false s e = refl

-- ── a set X parted into Y and Z: where a vertex is ──
pub data Parted : Bool → Bool → Bool → Type 0 where
  in_first : Parted true true false
  in_second : Parted true false true
  in_none : Parted false false false

pub parted : (x y z : Bool) → one x ≡ one y + one z → Parted x y z
parted true true true h = absurd (omega arith)
parted true true false h = in_first
parted true false true h = in_second
parted true false false h = absurd (omega arith)
parted false true z h = absurd (omega arith)
parted false false true h = absurd (omega arith)
parted false false false h = in_none
