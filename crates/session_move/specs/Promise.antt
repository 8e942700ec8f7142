-- Definitions only: what the call promises. Nothing is proved here: Kept has `move_promise`.
use Rattle.std.specs.Prelude.{◌≡◌, Result}
use Rattle.board_block.specs.declared.Book.TheVariants.{New}
use Rattle.session_rules.specs.Machine.{move_over, accepted}
use Rattle.session_answers.specs.Answers.{move_answer}
use Rattle.session.specs.declared.Session.{Session}
use Rattle.session.specs.Promise.{CallPromise}
use Rattle.session.specs.declared.After.{After}
use Rattle.session_answers.specs.declared.MoveRefusal.{MoveRefusal}
use Rattle.session_move.specs.Value.{move_of}

-- the value that is handed back, by a definition; what that is to the list machine; a refused call, and a call on a session already under the new
-- rule, hand back the very session that was given
pub record MovePromise (s : Session) (r : After (Result Unit MoveRefusal)) : Type 0 where
  pub value : r ≡ move_of s
  pub call : CallPromise s move_over (move_answer r.answer) r.session
  pub kept : (move_answer r.answer ≡ accepted → ⊥) → r.session ≡ s
  pub already : s.block.book ≡ New → r.session ≡ s
