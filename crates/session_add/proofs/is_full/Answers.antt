-- `is_full` tells whether the pins of a vertex are all taken.
use Rattle.net_places.proofs.NetsLaws.{pairs-of}
use Rattle.session_add.proofs.is_full.Goals as goal

pub returns : goal.returns
returns c = rw (pairs-of c.args.nets) (cc)
