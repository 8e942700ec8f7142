-- Definitions only: paths on a board, and document 01, "The board", second paragraph. Nothing is proved here.
use Rattle.std.specs.Prelude.{◌≡◌, cond, List, [], ◌∷◌, ℕ, suc, ◌+◌, ◌-◌, ◌≤◌, eqb}
use Rattle.board.specs.Board.{Board, at, Edge, edge, IsVertex, IsEdge}
use Rattle.board.specs.declared.Vertex.{Vertex}
use Rattle.board.specs.declared.Direction.{Direction}
use Rattle.board.specs.declared.Direction.TheVariants.{Up, Right, Down, Left}

-- The place one further from v in a direction. There is none above line 0 or left of column 0, and `next` stays there.
abbrev pub next : Direction → Vertex → Vertex
next Up v = at (v.line - 1) v.column
next Right v = at v.line (suc v.column)
next Down v = at (suc v.line) v.column
next Left v = at v.line (v.column - 1)

-- What lies between v and that place. (Where `next` stays it is no edge: an edge has two different ends.)
abbrev pub along : Direction → Vertex → Edge
along Up v = edge (next Up v) v
along Right v = edge v (next Right v)
along Down v = edge v (next Down v)
along Left v = edge (next Left v) v

-- "A path goes along edges": from u, in each of the directions in turn, it comes to v.
abbrev pub Path : Board → Vertex → List Direction → Vertex → Type 0
Path b u [] v = u ≡ v
Path b u (d ∷ ds) v = IsEdge b (along d u) × Path b (next d u) ds v

-- document 01's number of a direction: "0 up, 1 right, 2 down, 3 left"
abbrev pub number : Direction → ℕ
number Up = 0
number Right = 1
number Down = 2
number Left = 3

-- A bend, or turn, is a change of direction along a path.
unfoldable pub turn : Direction → Direction → ℕ
turn d e = cond (eqb (number d) (number e)) 0 1

unfoldable pub turns : List Direction → ℕ
turns [] = 0
turns (d ∷ []) = 0
turns (d ∷ (e ∷ ds)) = turn d e + turns (e ∷ ds)

-- "The board is convex when any two vertices are joined by a path in it with at most one bend."
unfoldable pub Convex : Board → Type 0
Convex b = (u v : Vertex) → IsVertex b u → IsVertex b v → (ds : List Direction) × Path b u ds v × (turns ds ≤ 1)
