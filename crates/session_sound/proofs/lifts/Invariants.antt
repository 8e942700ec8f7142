use Rattle.std.proofs.Common.{◌≡◌, length}
use Rattle.board_block.specs.View.{block_of}
use Rattle.session_rules.specs.Sound.{lifts?}
use Rattle.net_places.specs.Places.{nets_of}
use Rattle.session_pile.specs.Pile.{pile_of}
use Rattle.session_sound.proofs.lifts.Given as goal

abbrev pub invariant-loop-rest : goal.invariant-loop-rest
invariant-loop-rest l =
    (length l.on ≡ 64) × (lifts? (block_of l.b) (nets_of l.on) (pile_of l.rest) ≡ lifts? (block_of l.b) (nets_of l.fn.nets) (pile_of l.fn.pile))

abbrev pub decreases-loop-rest : goal.decreases-loop-rest
decreases-loop-rest l = l.rest.depth
