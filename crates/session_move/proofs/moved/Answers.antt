-- The parts of a fresh session on the block under the new rule, with the nets of the one that is moved.
use mathlib.Core.Path.{refl}
use Rattle.session.specs.Value.{fresh_of}
use Rattle.session_move.specs.Value.{moved}
use Rattle.session_move.proofs.moved.Goals as goal

pub returns : goal.returns
unfolding moved fresh_of
returns c = rw (c.fresh-bare.ensures.value, c.with_book.ensures) refl
