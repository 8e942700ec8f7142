-- Definitions only: a list of nets added in one call, told by single adds (document 02, §1). Nothing is proved here: `one_by_one` and
-- `one_by_one_only` say that the machine's call is this and nothing else.
use Rattle.std.specs.Prelude.{◌≡◌, List, [], ◌∷◌, ◌++◌, map, length, replicate}
use Rattle.std.proofs.Math.Option.{Option, none, some}
use Rattle.net.specs.declared.Net.{Net}
use Rattle.session_rules.specs.Refusal.{Refusal}
use Rattle.session_rules.specs.Session.{Session}
use Rattle.session_rules.specs.Machine.{Call, add, Answer, accepted, refused, went_on, step, after, answers}

-- a call of its own for each net, in list order
abbrev pub singly : List Net → List Call
singly ns = map add ns

-- "stopping at the first that is refused": on the session after those that went on, the next is refused in this way; or there is none left
abbrev pub StopsAt : Session → (left : List Net) → Option Refusal → Type 0
StopsAt s left none = left ≡ []
StopsAt s [] (some r) = ⊥
StopsAt s (n ∷ ns) (some r) = (step s (add n)).answer ≡ refused r

-- "The result is that of adding them one by one in list order, stopping at the first that is refused."
pub record OneByOne (s : Session) (ns : List Net) (answer : Answer) (next : Session) : Type 0 where
  -- the nets that went on, and those that were left
  pub on : List Net
  pub left : List Net
  pub in_order : ns ≡ on ++ left
  -- each was accepted as a single add;
  pub went : answers s (singly on) ≡ replicate (length on) accepted
  -- "The nets before it stay on and each is a change on the pile"
  pub stay : next ≡ after s (singly on)
  -- the refusal of the net at which the list stopped, if it did
  pub refusal : Option Refusal
  pub stops : StopsAt next left refusal
  -- "The answer says how many went on, and on a refusal the number and place of that add."
  pub told : answer ≡ went_on (length on) refusal
