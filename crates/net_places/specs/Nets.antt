-- Definitions only: what one place holds: a net, a number, these terminals. Nothing is proved here: NetsLaws has the laws.
use Rattle.std.specs.Prelude.{Bool, true, false, ◌&&◌, ℕ, None, Some}
use Rattle.std.proofs.Math.Option.{Option, none, some}
use Rattle.net.specs.Terminals.{same}
use Rattle.net.specs.declared.Pair.{Pair}
use Rattle.net.specs.declared.Net.{Net}
use Rattle.net_places.specs.Places.{net}
use Rattle.net.specs.View.{Held}

-- what a place holds, as a net
abbrev pub held_as : ℕ → Held → Option Net
held_as n None = none
held_as n (Some e) = some (net n e)

-- the same of one place
abbrev pub is_held : Held → Bool
is_held None = false
is_held (Some e) = true

abbrev pub same_pair : Pair → Pair → Bool
same_pair p q = same p.first q.first && same p.second q.second

abbrev pub held_same : Pair → Held → Bool
held_same p None = false
held_same p (Some q) = same_pair p q

-- the same of the net of a number
abbrev pub is_some : Option Net → Bool
is_some none = false
is_some (some n) = true
