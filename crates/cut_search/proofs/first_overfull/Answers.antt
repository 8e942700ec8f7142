-- `first_overfull` names the first overfull row, and where there is none the first overfull column.
use Rattle.cut_search.specs.Laws.{first_is_row, first_is_column}
use Rattle.net.specs.View.{pairs_of}
use Rattle.board.specs.View.{board_of}
use mathlib.Core.Path.{sym, ◌∙◌}
use Rattle.cut_search.proofs.first_overfull.Goals as goal

pub returns-in-Some : goal.returns-in-Some
returns-in-Some c =
    let b = board_of c.args.b in let ps = pairs_of c.args.nets in
    first_is_row b ps _ (sym c.in-Some.is ∙ c.overfull_row.ensures)

pub returns-in-None : goal.returns-in-None
returns-in-None c =
    let b = board_of c.args.b in let ps = pairs_of c.args.nets in
    c.overfull_column.ensures ∙ first_is_column b ps (sym c.in-None.is ∙ c.overfull_row.ensures)
