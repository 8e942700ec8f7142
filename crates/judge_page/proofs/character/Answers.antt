-- Which of the four characters stands there goes by the evenness of the text line and of the character.
use Rattle.board.specs.View.{board_of}
use Rattle.judge_page.specs.Laws.{vertex-character, across-character, down-character, blank-character}
use Rattle.judge_page.proofs.character.Goals as goal

pub returns-in-0-eq0 : goal.returns-in-0-eq0
returns-in-0-eq0 c =
    let args = c.args in
    rw (c.sign_if.ensures, c.is_vertex.ensures.same)
    (vertex-character (board_of args.b) args.used.now args.y args.x c.in-0-eq0.is-0 c.in-0-eq0.is-1)

pub returns-in-0-default : goal.returns-in-0-default
returns-in-0-default c =
    let args = c.args in
    rw (c.sign_if-in-0-default.ensures, c.is_used.ensures)
    (across-character (board_of args.b) args.used.now args.y args.x c.in-0-default.is-0 c.in-0-default.is-1.1)

pub returns-in_default-eq0 : goal.returns-in_default-eq0
returns-in_default-eq0 c =
    let args = c.args in
    rw (c.sign_if-in_default-eq0.ensures, c.is_used-in_default-eq0.ensures)
    (down-character (board_of args.b) args.used.now args.y args.x c.in_default-eq0.is-0.1 c.in_default-eq0.is-1)

pub returns-in_default : goal.returns-in_default
returns-in_default c =
    let args = c.args in
    blank-character (board_of args.b) args.used.now args.y args.x c.in_default.is-0.1 c.in_default.is-1.1
