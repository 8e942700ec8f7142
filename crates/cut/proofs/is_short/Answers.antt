use native.Mathlib.Omega.{arith}
use Rattle.cut.proofs.Signed.{difference_fits}
use mir.Facts.{to_z-of_z}
use mathlib.Core.Path.{refl}
use Rattle.cut.proofs.is_short.Goals as goal

pub returns : goal.returns
returns c =
    let e = c.margin_of.ensures in let t = c.args.t in
    rw (e, to_z-of_z (difference_fits t.edges t.nets (omega arith) (omega arith))) refl
