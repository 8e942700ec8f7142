-- `count_place` counts both terminals of what the place holds.
use mathlib.Core.Path.{refl}
use Rattle.net_terminals.proofs.count_place.Goals as goal

pub returns-in-Some : goal.returns-in-Some
returns-in-Some c = rw (c.in-Some.is, c.count_at-in-Some.ensures, c.count_at.ensures) refl
