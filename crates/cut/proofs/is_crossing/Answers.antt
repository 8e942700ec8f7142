-- `is_crossing` is `crosses`.
use Rattle.cut.specs.Cut.{crosses}
use mathlib.Core.Bool.{xor}
use mathlib.Core.Path.{refl}
use Rattle.cut.proofs.is_crossing.Goals as goal

pub returns : goal.returns
unfolding crosses xor
returns c = rw (← c.is_before-first.ensures, ← c.is_before-second.ensures) refl
