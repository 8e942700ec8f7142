-- `cidrask_route` hands the numbers on.
use Rattle.cidrask.specs.Laws.{two-numbers, count_third}
use Rattle.cidrask.proofs.cidrask_route.Goals as goal

pub returns : goal.returns
returns c =
    let routed = c.routed-answer in
    let R = routed.ensures in
    record { result = R.result; routes = R.routes; told = two-numbers routed.result _ R.told (count_third R.result) }
