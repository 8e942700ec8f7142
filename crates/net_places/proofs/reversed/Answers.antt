-- `reversed` gives the places once the change is reversed.
use Rattle.net_places.specs.Places.{reversed_in}
use Rattle.net_places.proofs.reversed.Goals as goal

pub returns-in-Added : goal.returns-in-Added
unfolding reversed_in
returns-in-Added c = rw c.in-Added.is c.stored.ensures

pub returns-in-Withdrawn : goal.returns-in-Withdrawn
unfolding reversed_in
returns-in-Withdrawn c = rw c.in-Withdrawn.is c.stored-in-Withdrawn.ensures
