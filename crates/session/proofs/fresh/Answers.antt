-- `fresh` gives the session with no nets, an empty pile and nothing kept.
use Rattle.std.proofs.Common.{refl}
use Rattle.session.specs.Value.{fresh_of}
use Rattle.session.proofs.Starts.{fresh_promise}
use Rattle.session.proofs.fresh.Goals as goal

pub returns : goal.returns
unfolding fresh_of
returns c = fresh_promise c.args.block _ (rw c.empty.ensures refl)
