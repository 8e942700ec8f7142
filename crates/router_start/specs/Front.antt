-- Definitions only: an array with some entries at its start, or from an index on, and the others as they were. Nothing is proved here.
use Rattle.std.specs.Prelude.{List, [], ◌∷◌, ◌++◌, ℕ, suc, length, set, drop}

abbrev pub in_front : List ℕ → (before : List ℕ) → List ℕ
in_front xs before = xs ++ drop (length xs) before

abbrev pub put_from : ℕ → List ℕ → (before : List ℕ) → List ℕ
put_from k [] before = before
put_from k (x ∷ xs) before = put_from (suc k) xs (set before k x)
