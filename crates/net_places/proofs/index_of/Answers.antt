-- `index_of` gives the index of a number.
use native.Mathlib.Omega.{arith}
use mathlib.Core.Path.{◌≡◌, refl, ◌∙◌}
use Rattle.net_places.proofs.NumberedLaws.{index-of}
use Rattle.net_places.proofs.index_of.Goals as goal

pub returns-then-number-gt0 : goal.returns-then-number-gt0
returns-then-number-gt0 c = c.from.ensures ∙ index-of c.args.number (omega arith)

pub returns-else-number-gt0 : goal.returns-else-number-gt0
returns-else-number-gt0 c = let e : c.args.number ≡ 0 = omega arith in rw e refl
