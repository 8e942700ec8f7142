-- `cidrask_wire` hands the numbers on.
use Rattle.call_rules.specs.Editor.{editor_wire}
use Rattle.cidrask.specs.Laws.{two-numbers, wire_third}
use Rattle.cidrask.proofs.cidrask_wire.Goals as goal

pub returns : goal.returns
returns c =
    let args = c.args in
    two-numbers c.wired-figures.result _ c.wired-figures.ensures (wire_third (editor_wire args.board.now))
