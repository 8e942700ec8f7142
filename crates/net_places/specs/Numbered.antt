-- Definitions only: the entry of a number n from 1 on, at index n - 1 of a list, read and replaced. Number 0 has none; nor has one past the end.
-- Nothing is proved here: NumberedLaws has the laws.
use Rattle.std.specs.Prelude.{List, ℕ, zero, suc, get_or, set}

abbrev pub entry : {A : Type 0} → List A → ℕ → A → A
entry xs zero d = d
entry xs (suc i) d = get_or xs i d

abbrev pub replaced : {A : Type 0} → List A → ℕ → A → List A
replaced xs zero x = xs
replaced xs (suc i) x = set xs i x

-- the index of a number's entry; that of number 0 is past the end of an array of 64
abbrev pub index_of : ℕ → ℕ
index_of zero = 255
index_of (suc i) = i
