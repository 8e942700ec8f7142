-- Definitions only: the list machine (document 01, "The session and its list machine"; a list of nets in one call: document 02, §1; trial layouts
-- by name: §5; changing books: §10). Nothing is proved here.
use Rattle.std.specs.Prelude.{cond, List, [], ◌∷◌, ℕ, ◌+◌, leb, take, set}
use Rattle.std.proofs.Math.Option.{Option, none, some}
use Rattle.board_block.specs.declared.Book.{Book}
use Rattle.board_block.specs.declared.Book.TheVariants.{Old, New}
use Rattle.net.specs.declared.Net.{Net}
use Rattle.net.specs.declared.Change.{Change}
use Rattle.net.specs.declared.Change.TheVariants.{Added, Withdrawn}
use Rattle.session_rules.specs.Refusal.{Refusal, refusal}
use Rattle.session_rules.specs.Session.{last_name, Kept, nothing_kept, Session, with_nets, with_names, kept_under, insert, remove, net_of}
use Rattle.session_rules.specs.Add.{add_refused}
use Rattle.session_rules.specs.NewRule.{under_new, move_refused}

-- the calls that change a session, with their arguments
pub data Call : Type 0 where
  add : Net → Call
  add_all : List Net → Call
  withdraw : ℕ → Call
  take_back : Call
  keep : (name : ℕ) → Call
  return_to : (name : ℕ) → Call
  move_over : Call

-- "It answers that a call is accepted, or refuses it with number and place"; of a list of nets (02, §1) "The answer says how many went on, and on
-- a refusal the number and place of that add."
pub data Answer : Type 0 where
  accepted : Answer
  refused : Refusal → Answer
  went_on : ℕ → Option Refusal → Answer

-- the refusal that an answer tells, if it tells one
abbrev pub refusal_of : Answer → Option Refusal
refusal_of accepted = none
refusal_of (refused r) = some r
refusal_of (went_on k r) = r

-- what a call hands back: its answer and the next session
pub record Step : Type 0 where
  pub answer : Answer
  pub next : Session

-- "A refused call .. change[s] nothing."
abbrev pub refuse : Refusal → Session → Step
refuse r s = record { answer = refused r; next = s }

abbrev pub accept : Session → Step
accept s = record { answer = accepted; next = s }

-- the greatest length of a pile
abbrev pub pile_limit : ℕ
pile_limit = 64

-- "A pile of 64 loses its lowest change when another is laid on."
unfoldable pub lay : Change → List Change → List Change
lay c cs = take pile_limit (c ∷ cs)

-- "Add puts the net in and lays "added" with it on the pile."
unfoldable pub added : Net → Session → Session
added n s = with_nets s (insert n s.nets) (lay (Added n) s.pile)

-- "Withdraw takes the net of that number out and lays "withdrawn" with it on the pile."
unfoldable pub withdrawn : Net → Session → Session
withdrawn n s = with_nets s (remove n.number s.nets) (lay (Withdrawn n) s.pile)

-- "the added net leaves, the withdrawn net returns with its terminals."
unfoldable pub reversed : Change → List Net → List Net
reversed (Added n) ns = remove n.number ns
reversed (Withdrawn n) ns = insert n ns

-- "Take back lifts the top change and reverses it .. It lays nothing on the pile."
unfoldable pub taken_back : Change → List Change → Session → Session
taken_back c cs s = with_nets s (reversed c s.nets) cs

-- 02, §5: "Keep stores the nets now on the board under a name, over what it held."
unfoldable pub stored : (name : ℕ) → Session → Session
stored k s = with_names s (set s.names k (some s.nets))

-- "Return makes those nets current and empties the pile."
unfoldable pub returned : List Net → Session → Session
returned ns s = with_nets s ns []

-- 02, §10: "A call moves the open session over, with its nets. The pile is emptied and kept names are forgotten"
unfoldable pub moved : Session → Session
moved s = record { block = under_new s.block; nets = s.nets; pile = []; names = nothing_kept }

abbrev pub add_step : Option Refusal → Net → Session → Step
add_step none n s = accept (added n s)
add_step (some r) n s = refuse r s

-- 02, §1: "stopping at the first that is refused": a net that is refused ends the list, and the session stays as the k nets before it left it
abbrev pub stop_or : Option Refusal → (k : ℕ) → Session → Step → Step
stop_or none k s rest = rest
stop_or (some r) k s rest = record { answer = went_on k (some r); next = s }

-- "The result is that of adding them one by one in list order .. The nets before it stay on and each is a change on the pile"; "An empty list goes
-- on with 0". k nets of the list went on before these. Laws: `one_by_one`, `one_by_one_only`
unfoldable pub add_all_step : (k : ℕ) → List Net → Session → Step
add_all_step k [] s = record { answer = went_on k none; next = s }
add_all_step k (n ∷ ns) s = stop_or (add_refused s.block s.nets n) k s (add_all_step (k + 1) ns (added n s))

-- refusal 26: "number not on the board"
abbrev pub withdraw_step : Option Net → Session → Step
withdraw_step none s = refuse (refusal 26 0) s
withdraw_step (some n) s = accept (withdrawn n s)

-- refusal 27: "pile empty"
abbrev pub take_back_step : List Change → Session → Step
take_back_step [] s = refuse (refusal 27 0) s
take_back_step (c ∷ cs) s = accept (taken_back c cs s)

-- "Refused: 35 for a name above 7"
abbrev pub if_name : (name : ℕ) → Session → Step → Step
if_name k s x = cond (leb k last_name) x (refuse (refusal 35 0) s)

-- "then 36 for a return to a name that holds nothing kept (a keep of no nets counts as kept)"
abbrev pub return_step : Kept → Session → Step
return_step none s = refuse (refusal 36 0) s
return_step (some ns) s = accept (returned ns s)

-- 02, §10: "Refused: 39"
abbrev pub move_step : Option Refusal → Session → Step
move_step none s = accept (moved s)
move_step (some r) s = refuse r s

-- "Moving a session already under the new rule changes nothing at all."
abbrev pub unless_new : Book → Session → Step → Step
unless_new Old s x = x
unless_new New s x = accept s

-- one call, read against the machine's own board with its book, nets, pile and names
unfoldable pub step : Session → Call → Step
step s (add n) = add_step (add_refused s.block s.nets n) n s
step s (add_all ns) = add_all_step 0 ns s
step s (withdraw k) = withdraw_step (net_of k s.nets) s
step s take_back = take_back_step s.pile s
step s (keep k) = if_name k s (accept (stored k s))
step s (return_to k) = if_name k s (return_step (kept_under k s) s)
step s move_over = unless_new s.block.book s (move_step (move_refused s.block s.nets) s)

-- a list of calls: the session after them, and the answer to each
unfoldable pub after : Session → List Call → Session
after s [] = s
after s (c ∷ cs) = after (step s c).next cs

unfoldable pub answers : Session → List Call → List Answer
answers s [] = []
answers s (c ∷ cs) = (step s c).answer ∷ answers (step s c).next cs
