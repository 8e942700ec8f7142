-- Where some pins are taken, the two conditions of the test.
use mathlib.Core.Path.{refl}
use borrow.Author.Tests.{eq-eqb, ne_eqb}
use Rattle.board_block.proofs.is_there.Goals as goal

pub returns-then-count-eq0 : goal.returns-then-count-eq0
returns-then-count-eq0 c = rw (eq-eqb _ _ c.if-count-eq0.true) refl

pub returns : goal.returns
returns c = rw (c.over_taken.ensures, c.vertex_at-vertex.ensures, ne_eqb _ _ c.if-count-eq0.false) refl
