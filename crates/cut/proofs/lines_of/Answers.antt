-- `lines_of` is the definition, with the height that the board holds.
use mathlib.Core.Path.{refl}
use Rattle.board.specs.ViewLaws.{height_of}
use Rattle.cut.proofs.lines_of.Goals as goal

pub returns : goal.returns
returns c = rw (height_of c.args.b, c.places.ensures) refl
