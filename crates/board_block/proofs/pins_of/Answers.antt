-- The pins that the array leaves, which has a place for each vertex.
use mathlib.Core.Path.{◌≡◌}
use lib.ListN.{length}
use Rattle.board_block.specs.Block.{pins_of}
use Rattle.board_block.proofs.ViewLaws.{entry_taken}
use borrow.Author.Rules.{rules}
use Rattle.board_block.proofs.pins_of.Goals as goal

pub returns : goal.returns
unfolding pins_of
returns c =
    let args = c.args in
    let l : length args.b.taken ≡ 1024 = search rules in
    rw (entry_taken args.b.taken args.v l) at c.pins_left.ensures
