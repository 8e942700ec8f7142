-- `check_net` answers with the number of the definition's refusal.
use Rattle.board_block.specs.View.{block_of}
use Rattle.net_places.specs.Places.{nets_of}
use Rattle.board_reading.proofs.AddingLaws.{number-none, number-some, never-unsound}
use Rattle.board_reading.proofs.check_net.Goals as goal

pub returns-in-Ok : goal.returns-in-Ok
returns-in-Ok c = number-none (block_of c.args.b) (nets_of c.args.nets) c.args.net c.check.result c.check.ensures c.in-Ok.is

pub unreachable-requires : goal.unreachable-requires
unreachable-requires c =
    let w = c.in-Err-Unsound in
    never-unsound (block_of c.args.b) (nets_of c.args.nets) c.args.net c.check.result c.check.ensures (rw w.field-0-is at w.is)

pub returns-in-Err-BadNumber : goal.returns-in-Err-BadNumber
returns-in-Err-BadNumber c =
    let w = c.in-Err-BadNumber in
    rw w.field-0-is at
    (number-some (block_of c.args.b) (nets_of c.args.nets) c.args.net c.check.result c.check.ensures w.field-0 w.is)

pub returns-in-Err-NumberTaken : goal.returns-in-Err-NumberTaken
returns-in-Err-NumberTaken c =
    let w = c.in-Err-NumberTaken in
    rw w.field-0-is at
    (number-some (block_of c.args.b) (nets_of c.args.nets) c.args.net c.check.result c.check.ensures w.field-0 w.is)

pub returns-in-Err-NoVertex : goal.returns-in-Err-NoVertex
returns-in-Err-NoVertex c =
    let w = c.in-Err-NoVertex in
    rw w.field-0-is at
    (number-some (block_of c.args.b) (nets_of c.args.nets) c.args.net c.check.result c.check.ensures w.field-0 w.is)

pub returns-in-Err-SameVertex : goal.returns-in-Err-SameVertex
returns-in-Err-SameVertex c =
    let w = c.in-Err-SameVertex in
    rw w.field-0-is at
    (number-some (block_of c.args.b) (nets_of c.args.nets) c.args.net c.check.result c.check.ensures w.field-0 w.is)

pub returns-in-Err-PinsTaken : goal.returns-in-Err-PinsTaken
returns-in-Err-PinsTaken c =
    let w = c.in-Err-PinsTaken in
    rw w.field-0-is at
    (number-some (block_of c.args.b) (nets_of c.args.nets) c.args.net c.check.result c.check.ensures w.field-0 w.is)
