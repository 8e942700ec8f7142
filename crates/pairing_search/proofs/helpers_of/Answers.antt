-- `helpers_of` answers as the definition does, with and without odd vertices.
use Rattle.board.specs.View.{board_of}
use Rattle.net.specs.View.{pairs_of}
use Rattle.pairing_search.specs.Answer.{helps-found, helps-none}
use Rattle.pairing_search.proofs.helpers_of.Goals as goal

pub returns-then-odds-eq0 : goal.returns-then-odds-eq0
returns-then-odds-eq0 c =
    let args = c.args in
    rw c.no_helpers.ensures (helps-none (board_of args.b) (pairs_of args.nets) c.requires.count_bound.1 args.odds c.requires.few c.if-odds-eq0.true)

pub returns : goal.returns
returns c =
    let args = c.args in
    helps-found (board_of args.b) (pairs_of args.nets) c.requires.count_bound.1 args.odds c.requires.few _ c.slack_of-left.result
    c.slack_of-left.ensures c.pair_up.result c.pair_up.ensures
