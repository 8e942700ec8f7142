-- Definitions only: the slots of a map of used edges, two for each vertex of lines and columns 0 to 31. Nothing is proved here.
-- An edge to the right of a vertex and one down from it have two slots beside each other.
use Rattle.std.specs.Prelude.{cond, ℕ, suc, ◌+◌, ◌-◌, ◌*◌, ◌/◌, ◌%◌, eqb}
use Rattle.board.specs.Board.{Edge, edge, at}
use Rattle.board.specs.declared.Vertex.{Vertex}
use Rattle.board.specs.declared.Direction.{Direction}
use Rattle.board.specs.declared.Direction.TheVariants.{Up, Right, Down, Left}

-- how many there are
abbrev pub slots : ℕ
slots = 2048

-- the first slot of a vertex
abbrev pub corner : ℕ → ℕ → ℕ
corner l c = l % 32 * 64 + c % 32 * 2

-- the slot of an edge, by its left or upper end
abbrev pub slot : Edge → ℕ
slot e = corner e.from.line e.from.column + cond (eqb e.from.line e.to.line) 0 1

-- the slot of what leaves a vertex in a direction
abbrev pub slot_at : Direction → Vertex → ℕ
slot_at Up v = corner (v.line - 1) v.column + 1
slot_at Right v = corner v.line v.column
slot_at Down v = corner v.line v.column + 1
slot_at Left v = corner v.line (v.column - 1)

-- the edge of a slot
abbrev pub edge_at : ℕ → Edge
edge_at s = edge (at (s / 64) (s % 64 / 2)) (cond (eqb (s % 2) 0) (at (s / 64) (suc (s % 64 / 2))) (at (suc (s / 64)) (s % 64 / 2)))
