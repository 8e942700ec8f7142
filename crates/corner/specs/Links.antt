-- Definitions only: the edges of a board as unit edges, and paths of directions as lists of unit edges. Nothing is proved here.
use Rattle.std.specs.Prelude.{Bool, List, [], ◌∷◌, ℕ, zero, suc}
use Rattle.std.proofs.Common.{inl, inr}
use Rattle.board.specs.Board.{Board, at, Edge, edge}
use Rattle.board.specs.Path.{next}
use Rattle.board.specs.Degree.{edge?}
use Rattle.board.specs.declared.Vertex.{Vertex}
use Rattle.board.specs.declared.Direction.{Direction}
use Rattle.board.specs.declared.Direction.TheVariants.{Up, Right, Down, Left}
use Rattle.net.specs.declared.Pair.{Pair}
use Rattle.corner.specs.Trails.{Link, hor, ver, lo, hi, Walk, Trails}

-- the unit edges that a board has
abbrev pub on_board : Board → Link → Bool
on_board b (hor l c) = edge? b Right (at l c)
on_board b (ver l c) = edge? b Down (at l c)

-- a unit edge as crate board writes it, by its two ends
abbrev pub edge_of : Link → Edge
edge_of e = edge (lo e) (hi e)

-- the unit edge above line l, and left of column c. (At line 0 and column 0 there is none, and any will do.)
abbrev pub above : ℕ → ℕ → Link
above zero c = ver 0 c
above (suc l) c = ver l c

abbrev pub before : ℕ → ℕ → Link
before l zero = hor l 0
before l (suc c) = hor l c

-- the unit edge from v in a direction
abbrev pub link_of : Direction → Vertex → Link
link_of Up v = above v.line v.column
link_of Right v = hor v.line v.column
link_of Down v = ver v.line v.column
link_of Left v = before v.line v.column

-- those of a path from u
unfoldable pub links_of : Vertex → List Direction → List Link
links_of u [] = []
links_of u (d ∷ ds) = link_of d u ∷ links_of (next d u) ds

-- the direction in which a unit edge is passed, from its upper or left end or from the other
abbrev pub forward : Link → Direction
forward (hor l c) = Right
forward (ver l c) = Down

abbrev pub backward : Link → Direction
backward (hor l c) = Left
backward (ver l c) = Up

-- the directions of a walk
unfoldable pub dirs_of : (u v : Vertex) (es : List Link) → Walk u es v → List Direction
dirs_of u v [] w = []
dirs_of u v (e ∷ es) (inl w) = forward e ∷ dirs_of (hi e) v es w.1
dirs_of u v (e ∷ es) (inr w) = backward e ∷ dirs_of (lo e) v es w.1

-- and of a trail for each pair
unfoldable pub paths_of : (ps : List Pair) → Trails ps → List (List Direction)
paths_of [] ts = []
paths_of (p ∷ ps) ts = dirs_of p.first p.second ts.0.0 ts.0.1 ∷ paths_of ps ts.1
