-- `is_liftable` tells whether the change can be reversed.
use Rattle.session_rules.specs.Sound.{liftable?}
use Rattle.session_sound.proofs.is_liftable.Goals as goal

pub returns-in-Added : goal.returns-in-Added
unfolding liftable?
returns-in-Added c = rw c.in-Added.is c.is_recorded.ensures

pub returns-in-Withdrawn : goal.returns-in-Withdrawn
unfolding liftable?
returns-in-Withdrawn c = rw c.in-Withdrawn.is c.is_free.ensures
