-- The sessions to start from: bare on their boards, and fresh where the board is convex.
-- Assumes nothing.
use Rattle.std.specs.Prelude.{◌≡◌, refl, true}
use Rattle.std.proofs.Common.{◌∙◌}
use Rattle.board.specs.View.{board_of}
use Rattle.board_block.specs.Taken.{in_order?, all_there?, taken_fine?}
use Rattle.board_block.specs.View.{block_of, plain_of}
use Rattle.board_block.proofs.ViewLaws.{none-taken}
use Rattle.board_block.specs.declared.Block as code
use Rattle.board_convex.specs.Test.{is_convex, in_limits, rows_fit, peels, contains?}
use Rattle.board_convex.proofs.Exact.{is-convex}
use Rattle.session_rules.specs.Sound.{Fresh, bare, blank}
use Rattle.session_laws.proofs.Stays.{fresh_bare}
use Rattle.net_places.proofs.NetsLaws.{no-nets}
use Rattle.session_pile.specs.Pile.{pile_of, changes_of}
use Rattle.session.specs.declared.Session.{Session}
use Rattle.session.specs.View.{session_of}
use Rattle.session.specs.Value.{fresh_of, blank_board}
use Rattle.session.specs.Promise.{FreshPromise, BlankPromise}

fresh_is_bare : (b : code.Block) → session_of (fresh_of b) ≡ bare (block_of b)
unfolding fresh_of pile_of changes_of
fresh_is_bare b = rw (no-nets 64) refl

pub fresh_promise : (b : code.Block) (r : Session) → r ≡ fresh_of b → FreshPromise b r
fresh_promise b r e =
    rw e (record { value = refl; bare = fresh_is_bare b; fresh = λ w c t. rw (fresh_is_bare b) (fresh_bare (block_of b) w c t) })

blank-board : bare (block_of (plain_of blank_board)) ≡ blank
unfolding board_of
blank-board = rw none-taken refl

blank_convex : is_convex blank.block.board ≡ true
unfolding is_convex in_limits rows_fit peels contains?
blank_convex = refl

blank_taken : taken_fine? blank.block ≡ true
unfolding in_order? all_there?
blank_taken = refl

blank_fresh : Fresh blank
blank_fresh = let c = (is-convex blank.block.board).0 blank_convex in fresh_bare blank.block c.0 c.1 blank_taken

pub blank_promise : (r : Session) → r ≡ fresh_of (plain_of blank_board) → BlankPromise r
blank_promise r e =
    let is-blank : session_of (fresh_of (plain_of blank_board)) ≡ blank = fresh_is_bare (plain_of blank_board) ∙ blank-board in
    rw e (record { value = refl; blank = is-blank; fresh = rw is-blank blank_fresh })
