-- Definitions only: document 01, "Routing", first paragraph, for a list of pairs to be joined. Nothing is proved here.
-- A path is a list of directions; one list of paths has a path for each pair, in the order of the pairs.
use Rattle.std.specs.Prelude.{Bool, ◌&&◌, ℕ, ◌+◌, ◌≤◌, min}
use mathlib.Core.List.{List, [], ◌∷◌, flatten}
use Rattle.count.specs.Truth.{one}
use Rattle.board.specs.Board.{Board, Edge}
use Rattle.board.specs.Path.{next, along, Path}
use Rattle.board.specs.declared.Vertex.{Vertex}
use Rattle.board.specs.declared.Direction.{Direction}
use Rattle.net.specs.Terminals.{same}
use Rattle.net.specs.declared.Pair.{Pair}

-- "A path goes along edges from a net's first terminal to its second." "One path for each net .. and no others."
abbrev pub Joins : Board → List Pair → List (List Direction) → Type 0
Joins b [] [] = Unit {0}
Joins b [] (ds ∷ dss) = ⊥
Joins b (p ∷ ps) [] = ⊥
Joins b (p ∷ ps) (ds ∷ dss) = Path b p.first ds p.second × Joins b ps dss

-- the edges of a path from u, in turn
unfoldable pub edges_from : Vertex → List Direction → List Edge
edges_from u [] = []
edges_from u (d ∷ ds) = along d u ∷ edges_from (next d u) ds

-- and those of each path
unfoldable pub trails : List Pair → List (List Direction) → List (List Edge)
trails [] dss = []
trails (p ∷ ps) [] = []
trails (p ∷ ps) (ds ∷ dss) = edges_from p.first ds ∷ trails ps dss

abbrev pub same_edge : Edge → Edge → Bool
same_edge e f = same e.from f.from && same e.to f.to

-- how often an edge is used in a list of edges
unfoldable pub uses : Edge → List Edge → ℕ
uses e [] = 0
uses e (f ∷ fs) = one (same_edge e f) + uses e fs

-- on how many of the paths an edge lies
unfoldable pub users : Edge → List (List Edge) → ℕ
users e [] = 0
users e (es ∷ ess) = min 1 (uses e es) + users e ess

-- "Paths are pairwise edge-disjoint when no edge lies on two of them." A path may go over its own edge again.
abbrev pub EdgeDisjoint : List Pair → List (List Direction) → Type 0
EdgeDisjoint ps dss = (e : Edge) → users e (trails ps dss) ≤ 1

-- "A routing is one path for each net on the board and no others, with no edge used twice, by two paths or by one."
pub record Routing (b : Board) (ps : List Pair) (dss : List (List Direction)) : Type 0 where
  pub joins : Joins b ps dss
  pub once : (e : Edge) → uses e (flatten (trails ps dss)) ≤ 1

-- Demand 3: "pairwise edge-disjoint paths joining them exist"
pub record Routable (b : Board) (ps : List Pair) : Type 0 where
  pub paths : List (List Direction)
  pub joins : Joins b ps paths
  pub disjoint : EdgeDisjoint ps paths
