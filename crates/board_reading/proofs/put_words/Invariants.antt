use Rattle.board.specs.View.{board_of}
use Rattle.board_reading.proofs.PinsLaws.{Pinning}
use Rattle.board_reading.proofs.put_words.Given as goal

abbrev pub invariant-loop-i : goal.invariant-loop-i
invariant-loop-i l = Pinning l.book (board_of l.b) l.words l.i l.taken
