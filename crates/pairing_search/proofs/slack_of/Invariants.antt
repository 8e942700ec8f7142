use Rattle.board.specs.View.{board_of}
use Rattle.net.specs.View.{pairs_of}
use Rattle.pairing_search.specs.Slack.{Filling}
use Rattle.pairing_search.proofs.slack_of.Given as goal

abbrev pub invariant-loop-i : goal.invariant-loop-i
invariant-loop-i l = Filling (board_of l.b) (pairs_of l.nets) l.left l.i
