-- Definitions only: a value, or the refusal in its place. Nothing is proved here.
use Rattle.std.proofs.Math.Option.{Option, none, some}
use Rattle.session_rules.specs.Refusal.{Refusal}

pub data Result (A : Type 0) : Type 0 where
  no : Refusal → Result A
  yes : A → Result A

-- go on with the value
abbrev pub and_then : {A B : Type 0} → Result A → (A → Result B) → Result B
and_then (no r) f = no r
and_then (yes a) f = f a

-- refuse, or go on
abbrev pub unless : {A : Type 0} → Option Refusal → Result A → Result A
unless none x = x
unless (some r) x = no r
