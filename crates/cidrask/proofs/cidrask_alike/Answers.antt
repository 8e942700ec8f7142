-- `cidrask_alike` hands the numbers on.
use Rattle.call_rules.specs.Editor.{editor_alike}
use Rattle.cidrask.specs.Laws.{two-numbers, alike_third}
use Rattle.cidrask.proofs.cidrask_alike.Goals as goal

pub returns : goal.returns
returns c =
    let args = c.args in
    two-numbers c.compared-told.result _ c.compared-told.ensures (alike_third (editor_alike args.board.now args.one.now args.two.now))
