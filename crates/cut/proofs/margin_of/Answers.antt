use Rattle.cut.proofs.Signed.{difference_fits, cast_difference_fits}
use mir.Facts.{to_z_pos, to_z-of_z}
use mir.Syntax.{w32}
use native.Mathlib.Omega.{arith}
use borrow.Author.Rules.{rules}
use Rattle.cut.proofs.margin_of.Goals as goal

pub overflow_sub-result : goal.overflow_sub-result
overflow_sub-result c = search (rules, cast_difference_fits)

pub returns : goal.returns
returns c = rw (to_z_pos w32 {n = c.args.t.edges} (omega arith), to_z_pos w32 {n = c.args.t.nets} (omega arith))
    (to_z-of_z (difference_fits c.args.t.edges c.args.t.nets (omega arith) (omega arith)))
