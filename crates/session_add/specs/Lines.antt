-- Definitions only: what adding a net answers, as a value of the code. Nothing is proved here:
-- `check_answer` in Check says that it is the first of the machine's lines that holds.
use Rattle.std.specs.Prelude.{Bool, not, cond, List, Result, Ok, Err}
use Rattle.board_block.specs.Block.{Block}
use Rattle.board.specs.Degree.{vertex?}
use Rattle.net.specs.Terminals.{same}
use Rattle.net.specs.declared.Net.{Net}
use Rattle.session_rules.specs.Session.{holds}
use Rattle.session_rules.specs.Add.{good_number, full}
use Rattle.session_answers.specs.declared.AddRefusal.{AddRefusal}
use Rattle.session_answers.specs.declared.AddRefusal.TheVariants.{BadNumber, NumberTaken, NoVertex, SameVertex, PinsTaken}

-- the first of the conditions for adding that holds, in the order of the table
unfoldable pub first_of : Bool → Bool → Bool → Bool → Bool → Bool → Bool → Result Unit AddRefusal
first_of is21 is22 is23_0 is23_1 is24 is25_0 is25_1 =
    cond is21 (Err BadNumber)
    (cond is22 (Err NumberTaken)
    (cond is23_0 (Err (NoVertex 0))
    (cond is23_1 (Err (NoVertex 1))
    (cond is24 (Err SameVertex)
    (cond is25_0 (Err (PinsTaken 0))
    (cond is25_1 (Err (PinsTaken 1)) (Ok tt)))))))

-- what adding the net n to the nets ns on the block b answers
unfoldable pub check_of : Block → List Net → Net → Result Unit AddRefusal
check_of b ns n =
    first_of (not (good_number n.number)) (holds n.number ns) (not (vertex? b.board n.ends.first))
    (not (vertex? b.board n.ends.second))
    (same n.ends.first n.ends.second) (full b ns n.ends.first) (full b ns n.ends.second)
