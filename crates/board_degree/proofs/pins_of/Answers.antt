use mathlib.Core.Path.{refl}
use Rattle.board.specs.Degree.{pins}
use Rattle.board_degree.proofs.pins_of.Goals as goal

pub returns-then-is_vertex : goal.returns-then-is_vertex
unfolding pins
returns-then-is_vertex c = rw (← c.is_vertex.ensures.same, c.if-is_vertex.true, ← c.degree_of.ensures.value) refl

pub returns-else-is_vertex : goal.returns-else-is_vertex
unfolding pins
returns-else-is_vertex c = rw (← c.is_vertex.ensures.same, c.if-is_vertex.false) refl
