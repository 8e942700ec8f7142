-- Definitions only: fields of a word. Nothing is proved here.
use Rattle.std.specs.Prelude.{ℕ, ◌*◌, ◌/◌, ◌%◌, ◌^◌}

-- the number that n bits of w make, from bit lo upwards
abbrev pub bits : (lo n w : ℕ) → ℕ
bits lo n w = (w / 2 ^ lo) % 2 ^ n

-- the number x put at bit lo
abbrev pub put : (lo x : ℕ) → ℕ
put lo x = x * 2 ^ lo

-- "31-28": the kind of a word
abbrev pub kind : ℕ → ℕ
kind w = bits 28 4 w
