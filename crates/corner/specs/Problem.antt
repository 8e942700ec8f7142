-- Definitions only: what the theorem speaks of beside the definitions of the crates below. Nothing is proved here.
use Rattle.std.specs.Prelude.{◌≡◌, List, [], ◌++◌, ◌⊎◌, ℕ, ◌+◌, ◌-◌, ◌≤◌}
use Rattle.count.specs.Truth.{one}
use Rattle.board.specs.Board.{Board, Within, edge, IsVertex, IsEdge}
use Rattle.board.specs.Degree.{degree}
use Rattle.board.specs.declared.Vertex.{Vertex}
use Rattle.net.specs.declared.Pair.{Pair}
use Rattle.net.specs.Terminals.{terminals}
use Rattle.cut.specs.declared.Cut.{Cut}
use Rattle.cut.specs.Cut.{edges, crossing, overfull_cuts}
use Rattle.cut.specs.Odd.{odd?}
use Rattle.count.specs.Parity.{Even}
use Rattle.corner.specs.Pairs.{All}
use Rattle.board.specs.Path.{Convex}

-- pairs to be joined on a convex board, where a vertex v has p v pins: 02, §9, "over the pin count as a parameter, never above 4 minus the degree"
pub record Problem (b : Board) (p : Vertex → ℕ) (ps : List Pair) : Type 0 where
  -- the board is within the limits and convex
  pub within : Within b
  pub convex : Convex b
  pub never_above : (v : Vertex) → IsVertex b v → p v ≤ 4 - degree b v
  -- every terminal is a vertex, and no vertex has more terminals than pins
  pub stand : All (IsVertex b) ps
  pub room : (v : Vertex) → IsVertex b v → terminals ps v ≤ p v

-- ── evenness and the cut condition, in numbers ──
abbrev pub AllEven : Board → List Pair → Type 0
AllEven b ps = (v : Vertex) → IsVertex b v → Even (degree b v + terminals ps v)

-- no cut, on the board or beside it, has more nets than edges
abbrev pub NoneOverfull : Board → List Pair → Type 0
NoneOverfull b ps = (X : Cut) → crossing X ps ≤ edges b X

-- ── boards with odd vertices ──
-- helper pairs: each odd vertex is an end of one of them, and no other vertex is
pub record Helpers (b : Board) (ps hs : List Pair) : Type 0 where
  pub stand : All (IsVertex b) hs
  pub each : (v : Vertex) → IsVertex b v → terminals hs v ≡ one (odd? b ps v)

-- they leave no cut overfull
abbrev pub Paired : Board → List Pair → Type 0
Paired b ps = (hs : List Pair) × Helpers b ps hs × (overfull_cuts b (hs ++ ps) ≡ [])

-- ── maps of the vertices ──
-- u and v are the ends of an edge
abbrev pub Joined : Board → Vertex → Vertex → Type 0
Joined b u v = IsEdge b (edge u v) ⊎ IsEdge b (edge v u)

-- g takes the edges of b to edges of b', and h undoes it
pub record KeepsEdges (b b' : Board) (g h : Vertex → Vertex) : Type 0 where
  pub keeps : (u v : Vertex) → Joined b u v → Joined b' (g u) (g v)
  pub undo : (v : Vertex) → IsVertex b v → h (g v) ≡ v
