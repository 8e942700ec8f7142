use Rattle.board_block.specs.View.{block_of}
use Rattle.board_reading.specs.Adding.{Adding}
use Rattle.board_reading.proofs.add_words.Given as goal

abbrev pub invariant-loop-i : goal.invariant-loop-i
invariant-loop-i l = Adding (block_of l.b) l.words l.i-counter l.nets
