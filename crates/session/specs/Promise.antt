-- Definitions only: what each call of the code promises. Nothing is proved here.
-- Each promise has the value that is handed back, by a definition; `CallPromise`: what that is to the list machine; and that a refused call hands
-- back the very session that it was given, or of a list of nets what those left that went on.
use Rattle.std.specs.Prelude.{◌≡◌, true, List, ℕ, take, Result}
use Rattle.board.specs.Board.{Within}
use Rattle.board.specs.Path.{Convex}
use Rattle.board_block.specs.Taken.{taken_fine?}
use Rattle.board_block.specs.View.{block_of, plain_of}
use Rattle.board_block.specs.declared.Block as code
use Rattle.net.specs.declared.Net.{Net}
use Rattle.session_rules.specs.Machine.{Call, add, add_all, withdraw, take_back, keep, return_to, Answer, accepted}
use Rattle.session_rules.specs.Sound as machine
use Rattle.session.specs.declared.Session.{Session}
use Rattle.session.specs.declared.After.{After}
use Rattle.session_answers.specs.declared.AddAllAnswer.{AddAllAnswer}
use Rattle.session_answers.specs.declared.AddRefusal.{AddRefusal}
use Rattle.session_answers.specs.declared.WithdrawRefusal.{WithdrawRefusal}
use Rattle.session_answers.specs.declared.TakeBackRefusal.{TakeBackRefusal}
use Rattle.session_answers.specs.declared.KeepRefusal.{KeepRefusal}
use Rattle.session_answers.specs.declared.ReturnRefusal.{ReturnRefusal}
use Rattle.session_answers.specs.Answers.{add_answer, add_all_answer, withdraw_answer, take_back_answer, keep_answer, return_answer}
use Rattle.session.specs.View.{session_of}
use Rattle.session.specs.Value.{add_of, add_all_of, withdraw_of, take_back_of, keep_of, return_of, fresh_of, blank_board}

-- Made on the session s, a call of the machine's was answered a and handed back the session t:
pub record CallPromise (s : Session) (c : Call) (a : Answer) (t : Session) : Type 0 where
  -- the machine's answer, 20 for an unsound session included,
  pub answers : a ≡ (machine.call (session_of s) c).answer
  -- and its session
  pub next : session_of t ≡ (machine.call (session_of s) c).next

pub record AddPromise (s : Session) (n : Net) (r : After (Result Unit AddRefusal)) : Type 0 where
  pub value : r ≡ add_of s n
  pub call : CallPromise s (add n) (add_answer r.answer) r.session
  pub kept : (add_answer r.answer ≡ accepted → ⊥) → r.session ≡ s

-- "for this call alone a refusal leaves that much changed and no more": the nets that went on alone would have left the same
pub record AddAllPromise (s : Session) (ns : List Net) (r : After AddAllAnswer) : Type 0 where
  pub value : r ≡ add_all_of s ns
  pub call : CallPromise s (add_all ns) (add_all_answer r.answer) r.session
  pub kept : r.session ≡ (add_all_of s (take r.answer.count ns)).session

pub record WithdrawPromise (s : Session) (k : ℕ) (r : After (Result Unit WithdrawRefusal)) : Type 0 where
  pub value : r ≡ withdraw_of s k
  pub call : CallPromise s (withdraw k) (withdraw_answer r.answer) r.session
  pub kept : (withdraw_answer r.answer ≡ accepted → ⊥) → r.session ≡ s

pub record TakeBackPromise (s : Session) (r : After (Result Unit TakeBackRefusal)) : Type 0 where
  pub value : r ≡ take_back_of s
  pub call : CallPromise s take_back (take_back_answer r.answer) r.session
  pub kept : (take_back_answer r.answer ≡ accepted → ⊥) → r.session ≡ s

pub record KeepPromise (s : Session) (k : ℕ) (r : After (Result Unit KeepRefusal)) : Type 0 where
  pub value : r ≡ keep_of s k
  pub call : CallPromise s (keep k) (keep_answer r.answer) r.session
  pub kept : (keep_answer r.answer ≡ accepted → ⊥) → r.session ≡ s

pub record ReturnPromise (s : Session) (k : ℕ) (r : After (Result Unit ReturnRefusal)) : Type 0 where
  pub value : r ≡ return_of s k
  pub call : CallPromise s (return_to k) (return_answer r.answer) r.session
  pub kept : (return_answer r.answer ≡ accepted → ⊥) → r.session ≡ s

-- a session on a block, fresh if its board is convex and its taken pins are there
pub record FreshPromise (b : code.Block) (r : Session) : Type 0 where
  pub value : r ≡ fresh_of b
  pub bare : session_of r ≡ machine.bare (block_of b)
  pub fresh : Within (block_of b).board → Convex (block_of b).board → taken_fine? (block_of b) ≡ true → machine.Fresh (session_of r)

pub record BlankPromise (r : Session) : Type 0 where
  pub value : r ≡ fresh_of (plain_of blank_board)
  pub blank : session_of r ≡ machine.blank
  pub fresh : machine.Fresh (session_of r)
