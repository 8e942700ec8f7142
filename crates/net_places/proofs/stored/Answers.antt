-- `stored` replaces the place of a number, and nothing where there is none.
use native.Mathlib.Omega.{arith}
use Rattle.net_places.proofs.NumberedLaws.{replaced-in, replaced-out}
use borrow.Author.Rules.{rules}
use Rattle.net_places.proofs.stored.Goals as goal

pub returns-then-at-lt64 : goal.returns-then-at-lt64
returns-then-at-lt64 c =
    let at2 = c in
    replaced-in at2.args.nets at2.args.number c.index_of-at.result at2.args.place c.index_of-at.ensures (omega arith)

pub returns-else-at-lt64 : goal.returns-else-at-lt64
returns-else-at-lt64 c =
    let at2 = c in
    replaced-out at2.args.nets at2.args.number c.index_of-at.result at2.args.place c.index_of-at.ensures (omega arith)
    (search rules)
