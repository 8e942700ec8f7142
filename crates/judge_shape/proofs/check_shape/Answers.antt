-- `check_shape` refuses as the definition does: the count of the words first, then word by word.
use Rattle.net_places.specs.Places.{nets_of}
use Rattle.judge_shape.specs.Whole.{shape-bad, shape-good, count_fits}
use Rattle.judge_shape.proofs.check_shape.Goals as goal

pub check_words-requires : goal.check_words-requires
check_words-requires c = count_fits c.args.words.now c.if-len.false

pub returns-then-len : goal.returns-then-len
returns-then-len c = shape-bad _ _ c.if-len.true

pub returns-else-len : goal.returns-else-len
returns-else-len c =
    rw (shape-good (nets_of c.args.nets) c.args.words.now c.if-len.false, ← c.count_nets.ensures) c.check_words.ensures
