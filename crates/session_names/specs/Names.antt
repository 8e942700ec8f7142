-- Definitions only: what the eight names of a session hold. Nothing is proved here: NamesLaws has the laws.
use Rattle.std.specs.Prelude as prelude
use Rattle.std.specs.Prelude.{List, map, None, Some}
use Rattle.std.proofs.Math.Option.{none, some}
use Rattle.net.specs.View.{Held}
use Rattle.session_rules.specs.Session.{Kept}
use Rattle.net_places.specs.Places.{nets_of}

-- a trial layout: the places that are kept under a name, or nothing
abbrev pub Stored : Type 0
Stored = prelude.Option (List Held)

-- what is kept under a name
abbrev pub kept_in : Stored → Kept
kept_in None = none
kept_in (Some ps) = some (nets_of ps)

-- the names as the list machine holds them
abbrev pub kept_of : List Stored → List Kept
kept_of names = map kept_in names
