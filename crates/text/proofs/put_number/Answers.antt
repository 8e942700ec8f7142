-- A space and the digits, one behind the other.
use Rattle.text.specs.Laws.{put_spaced}
use Rattle.text.proofs.put_number.Goals as goal

pub returns-clause-put : goal.returns-clause-put
returns-clause-put c =
    let decimal = c.decimal-count in put_spaced decimal.ensures.len decimal.ensures.digits c.put-from.ensures c.put.ensures
