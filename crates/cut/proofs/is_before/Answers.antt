-- `is_before` is `side`.
use mathlib.Core.Path.{refl}
use Rattle.cut.proofs.is_before.Goals as goal

pub returns-in-Row : goal.returns-in-Row
returns-in-Row c = rw c.in-Row.is refl

pub returns-in-Column : goal.returns-in-Column
returns-in-Column c = rw c.in-Column.is refl
