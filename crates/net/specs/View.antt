-- Definitions only: the pairs that an array of places holds. Nothing is proved here: ViewLaws has the laws.
use Rattle.std.specs.Prelude.{List, [], ◌∷◌, ℕ, Option, None, Some}
use Rattle.board.specs.declared.Vertex.{Vertex}
use Rattle.net.specs.Terminals.{ends}
use Rattle.net.specs.declared.Pair.{Pair}

-- what is held under a net's number: its terminals, or nothing
abbrev pub Held : Type 0
Held = Option Pair

abbrev pub nothing : Held
nothing = None

abbrev pub held_then : Held → List Pair → List Pair
held_then None ps = ps
held_then (Some p) ps = p ∷ ps

-- the nets in rising number, as pairs
unfoldable pub pairs_of : List Held → List Pair
pairs_of [] = []
pairs_of (p ∷ ps) = held_then p (pairs_of ps)

-- a number of a net, and 0 of an empty place
abbrev pub held_by : (Pair → ℕ) → Held → ℕ
held_by f None = 0
held_by f (Some p) = f p

abbrev pub held_ends : Vertex → Held → ℕ
held_ends v h = held_by (λ p. ends p v) h
