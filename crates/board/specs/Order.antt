-- Definitions only: the reading order of vertices, "in reading order, line by line and column by column" (document 01, refusal 32; document 02, §10,
-- refusal 39). Nothing is proved here: OrderLaws has the laws.
use Rattle.std.specs.Prelude.{◌≡◌, Bool, true, false, ◌⊎◌, ◌<◌}
use mathlib.Core.List.{List, flat_map, map}
use Rattle.count.specs.Lists.{up_to}
use Rattle.board.specs.Board.{at}
use Rattle.board.specs.declared.Vertex.{Vertex}

-- lines and columns are 0 to 31
abbrev pub reading_order : List Vertex
reading_order = flat_map (λ l. map (at l) (up_to 32)) (up_to 32)

-- u comes before v
abbrev pub VertexBefore : Vertex → Vertex → Type 0
VertexBefore u v = (u.line < v.line) ⊎ ((u.line ≡ v.line) × (u.column < v.column))

-- v is the first that passes a test
pub record FirstPasses (t : Vertex → Bool) (v : Vertex) : Type 0 where
  pub passes : t v ≡ true
  pub before : (u : Vertex) → VertexBefore u v → t u ≡ false
