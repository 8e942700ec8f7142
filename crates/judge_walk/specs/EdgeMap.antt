-- Definitions only: the map of used edges. It has at the slot of each edge the number of the net whose path uses the edge, and 0 where none does.
-- Nothing is proved here. That the walk of a list that passes makes this map is `map-made` in MapMade.
use Rattle.std.specs.Prelude.{Bool, cond, List, [], ◌∷◌, map, ℕ, ltb, replicate}
use Rattle.count.specs.Lists.{up_to}
use Rattle.board.specs.Board.{Edge}
use Rattle.routing_rules.specs.Routing.{edges_from, uses}
use Rattle.call_rules.specs.Report.{directions}
use Rattle.call_rules.specs.Shape.{PathAt}
use Rattle.judge_walk.specs.Slots.{slots, edge_at}

-- before any path: no edge is used
abbrev pub unused : List ℕ
unused = replicate slots 0

-- does a path use an edge?
unfoldable pub on_path : Edge → PathAt → Bool
on_path e p = ltb 0 (uses e (edges_from p.net.ends.first (directions p.runs)))

-- the number of the net whose path uses an edge, 0 where none does
unfoldable pub net_on : List PathAt → Edge → ℕ
net_on [] e = 0
net_on (p ∷ ps) e = cond (on_path e p) p.net.number (net_on ps e)

-- the map of the paths of a list
unfoldable pub map_of : List PathAt → List ℕ
map_of ps = map (λ s. net_on ps (edge_at s)) (up_to slots)
