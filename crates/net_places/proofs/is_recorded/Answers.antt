-- `is_recorded` tells whether this very net is held.
use Rattle.std.specs.Prelude.{◌≡◌, Bool, None, Some}
use Rattle.std.specs.Option.{option_eq}
use Rattle.net.specs.View.{Held}
use Rattle.net.specs.declared.Pair.{Pair}
use Rattle.net.specs.contracts.PairPartialEq.TheImpl.{eq-value}
use Rattle.net_places.specs.Nets.{held_same}
use Rattle.net_places.proofs.NetsLaws.{recorded_of}
use Rattle.net_places.proofs.is_recorded.Goals as goal

same : (p : Pair) (h : Held) {t : Bool} → t ≡ option_eq eq-value.it (Some p) h → t ≡ held_same p h
same p None e = e
same p (Some q) e = e

pub returns : goal.returns
returns c = rw (recorded_of c.args.nets c.args.net, ← c.place_of.ensures) (same c.args.net.ends c.place_of.result c.eq.ensures)
