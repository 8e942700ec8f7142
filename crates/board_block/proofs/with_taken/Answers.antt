-- The board and its book stay, and the array gets the taken pins.
use mathlib.Core.Path.{◌≡◌, refl}
use lib.ListN.{length}
use Rattle.board_block.proofs.ViewLaws.{takes_pins}
use borrow.Author.Rules.{rules}
use Rattle.board_block.proofs.with_taken.Goals as goal

pub returns : goal.returns
returns c =
    let args = c.args in
    let l : length args.b.taken ≡ 1024 = search rules in
    takes_pins args.b args.t _ l (rw c.put_taken.ensures refl)
