use mathlib.Core.Path.{◌≡◌}
use lib.ListN.{take}
use Rattle.board.specs.View.{board_of}
use Rattle.call_rules.specs.Page.{page}
use Rattle.call_rules.specs.Writing.{written_into}
use Rattle.judge_page.specs.Marked.{marked}
use Rattle.judge_page.proofs.draw.Given as goal

abbrev pub invariant-loop-i : goal.invariant-loop-i
invariant-loop-i l = l.byte-items ≡ written_into l.initial.byte-items (take l.i (page (board_of l.b) (marked l.used)))
