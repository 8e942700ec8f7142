-- The kind is the definition's; past 3 no count but that of a vertex inside is left.
use mathlib.Core.Path.{sym}
use native.Mathlib.Omega.{arith}
use Rattle.board_degree.proofs.KindLaws.{inside_by}
use Rattle.board_degree.proofs.kind_by.Goals as goal

pub returns-in_default : goal.returns-in_default
returns-in_default c = sym (inside_by c.args.cells c.args.opposite (omega arith))
