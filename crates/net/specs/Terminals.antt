-- Definitions only: the terminals of a list of pairs (document 01, "The session and its list machine" and "Cuts").
use Rattle.std.specs.Prelude.{Bool, ◌&&◌, List, [], ◌∷◌, ℕ, ◌+◌, eqb}
use Rattle.count.specs.Truth.{one}
use Rattle.board.specs.declared.Vertex.{Vertex}
use Rattle.net.specs.declared.Pair.{Pair}

abbrev pub same : Vertex → Vertex → Bool
same u v = eqb u.line v.line && eqb u.column v.column

-- how many of a pair's two terminals stand at v
abbrev pub ends : Pair → Vertex → ℕ
ends p v = one (same p.first v) + one (same p.second v)

-- how many terminals stand at v
unfoldable pub terminals : List Pair → Vertex → ℕ
terminals [] v = 0
terminals (p ∷ ps) v = ends p v + terminals ps v
