-- Definitions only: what writing a board promises. Nothing is proved here.
use Rattle.std.specs.Prelude as prelude
use Rattle.std.specs.Prelude.{◌≡◌, List, ℕ, length}
use Rattle.session_rules.specs.Refusal.{refusal}
use Rattle.session_rules.specs.Session.{Session}
use Rattle.call_rules.specs.Result.{Result, no, yes}
use Rattle.call_rules.specs.Writing.{written_into, write_board, Writes}
use Rattle.board_writing.specs.declared.WriteRefusal.{WriteRefusal}
use Rattle.board_writing.specs.declared.WriteRefusal.TheVariants.{Unsound, ShortBuffer}

-- document 01's number of a refusal
abbrev pub write_number : WriteRefusal → ℕ
write_number Unsound = 20
write_number ShortBuffer = 18

-- and its count, or number and place, of an answer
abbrev pub write_answer : prelude.Result ℕ WriteRefusal → Result ℕ
write_answer (prelude.Ok n) = yes n
write_answer (prelude.Err e) = no (refusal (write_number e) 0)

-- the answer and the buffer afterwards are the definition's
abbrev pub WritePromise : (s : Session) (before : List ℕ) (r : prelude.Result ℕ WriteRefusal) (after : List ℕ) → Type 0
WritePromise s before r after = Writes (write_board s (length before)) before (write_answer r) after

-- these words stand at the start of the buffer, and the answer is their count
pub record WrittenWords (ws before after : List ℕ) (r : ℕ) : Type 0 where
  pub count : r ≡ length ws
  pub buffer : after ≡ written_into before ws
