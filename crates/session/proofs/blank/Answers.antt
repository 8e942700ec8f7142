-- `blank` gives the blank session.
use mathlib.Core.Path.{ap, ◌∙◌}
use Rattle.session.specs.Value.{fresh_of}
use Rattle.session.proofs.Starts.{blank_promise}
use Rattle.session.proofs.blank.Goals as goal

pub returns : goal.returns
returns c = blank_promise _ (c.fresh.ensures.value ∙ ap fresh_of c.plain.ensures)
