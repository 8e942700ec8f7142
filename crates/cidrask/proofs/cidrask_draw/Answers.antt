-- `cidrask_draw` hands the number on.
use Rattle.cidrask.specs.Laws.{drawn_told}
use Rattle.cidrask.proofs.cidrask_draw.Goals as goal

pub returns : goal.returns
returns c = let drawn = c.drawn-drawing in drawn_told drawn.ensures.drawn_as drawn.ensures.second_value
