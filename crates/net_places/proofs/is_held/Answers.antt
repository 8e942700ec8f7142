-- `is_held` tells whether a net of the number is held.
use Rattle.std.specs.Prelude.{◌≡◌, Bool, None, Some}
use Rattle.std.specs.Option.{is_some}
use Rattle.net.specs.View.{Held}
use Rattle.net_places.specs.Nets.{is_held}
use Rattle.net_places.proofs.NetsLaws.{holds_of}
use Rattle.net_places.proofs.is_held.Goals as goal

held : (h : Held) {t : Bool} → t ≡ is_some h → t ≡ is_held h
held None e = e
held (Some p) e = e

pub returns : goal.returns
returns c = rw (holds_of c.args.nets c.args.number, ← c.place_of.ensures) (held c.place_of.result c.is_some.ensures)
