use mathlib.Core.Path.{refl}
use Rattle.cut.proofs.with_place.Goals as goal

pub returns-in-None : goal.returns-in-None
returns-in-None c = cc

pub returns-then-is_crossing : goal.returns-then-is_crossing
returns-then-is_crossing c = rw (c.in-Some.is, ← c.is_crossing.ensures, c.if-is_crossing.true) refl

pub returns-else-is_crossing : goal.returns-else-is_crossing
returns-else-is_crossing c = rw (c.in-Some.is, ← c.is_crossing.ensures, c.if-is_crossing.false) refl
