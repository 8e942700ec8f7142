-- The name, the numbers and the line feed, one behind the other.
use Rattle.text.specs.Laws.{put-line}
use Rattle.text.proofs.put_line.Goals as goal

pub returns-clause-put : goal.returns-clause-put
returns-clause-put c = put-line c.args.numbers.now c.put-named.ensures c.put_numbers-numbered.ensures.put c.put.ensures
