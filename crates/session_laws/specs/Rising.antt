-- Definitions only: nets in rising number from a number on. Nothing is proved here: Rising in proofs/ has the laws.
use Rattle.std.specs.Prelude.{List, [], ◌∷◌, ℕ, suc, ◌≤◌}
use Rattle.net.specs.declared.Net.{Net}

-- DEFINITION: the numbers rise, from k on
abbrev pub From : ℕ → List Net → Type 0
From k [] = Unit {0}
From k (n ∷ ns) = (k ≤ n.number) × From (suc n.number) ns
