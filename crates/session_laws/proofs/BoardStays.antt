-- No call on a session but a move to the new rule (document 02, §10) changes its block: the board stays, with its book (§9), and "Taken pins belong
-- to the board" (§8). A move changes the book, and nothing else of the block.
-- Assumes nothing.
use Rattle.std.specs.Prelude.{◌≡◌, refl, List, [], ◌∷◌, ◌⊎◌, ℕ, ◌+◌, leb}
use Rattle.std.proofs.Common.{inl, inr}
use Rattle.std.proofs.Math.Option.{Option, none, some}
use Rattle.count.specs.TruthLaws.{bool}
use Rattle.board_block.specs.declared.Book.{Book}
use Rattle.board_block.specs.declared.Book.TheVariants.{Old, New}
use Rattle.net.specs.declared.Net.{Net}
use Rattle.net.specs.declared.Change.{Change}
use Rattle.session_rules.specs.Refusal.{Refusal}
use Rattle.session_rules.specs.Session.{last_name, Kept, Session, kept_under, net_of}
use Rattle.session_rules.specs.Add.{add_refused}
use Rattle.session_rules.specs.NewRule.{under_new, move_refused}
use Rattle.session_rules.specs.Machine.{
  Call,
  add,
  add_all,
  withdraw,
  take_back,
  keep,
  return_to,
  move_over,
  Step,
  accept,
  stop_or,
  add_step,
  add_all_step,
  withdraw_step,
  take_back_step,
  if_name,
  return_step,
  move_step,
  unless_new,
  step,
  added,
  withdrawn,
  taken_back,
  stored,
  returned,
  moved,
}
use Rattle.session_rules.specs.Sound.{sound?, call}

-- DEFINITION: the step leaves the block of s
abbrev Leaves : Session → Step → Type 0
Leaves s x = x.next.block ≡ s.block

add_leaves : (r : Option Refusal) (n : Net) (s : Session) → Leaves s (add_step r n s)
unfolding added
add_leaves none n s = refl
add_leaves (some r) n s = refl

stop_leaves : (r : Option Refusal) (k : ℕ) (s : Session) (x : Step) → Leaves s x → Leaves s (stop_or r k s x)
stop_leaves none k s x e = e
stop_leaves (some r) k s x e = refl

all_leave : (k : ℕ) (ns : List Net) (s : Session) → Leaves s (add_all_step k ns s)
unfolding add_all_step added
all_leave k [] s = refl
all_leave k (n ∷ ns) s = stop_leaves (add_refused s.block s.nets n) k s (add_all_step (k + 1) ns (added n s)) (all_leave (k + 1) ns (added n s))

withdraw_leaves : (n : Option Net) (s : Session) → Leaves s (withdraw_step n s)
unfolding withdrawn
withdraw_leaves none s = refl
withdraw_leaves (some n) s = refl

back_leaves : (cs : List Change) (s : Session) → Leaves s (take_back_step cs s)
unfolding taken_back
back_leaves [] s = refl
back_leaves (c ∷ cs) s = refl

named_leaves : (k : ℕ) (s : Session) (x : Step) → Leaves s x → Leaves s (if_name k s x)
named_leaves k s x e = elim (bool (leb k last_name)) [ inl f ↦ rw f e | inr f ↦ rw f refl ]

return_leaves : (x : Kept) (s : Session) → Leaves s (return_step x s)
unfolding returned
return_leaves none s = refl
return_leaves (some ns) s = refl

-- DEFINITION: or it is of a move, and leaves it under the new rule
abbrev LeavesBoard : Session → Call → Step → Type 0
LeavesBoard s c x = Leaves s x ⊎ ((c ≡ move_over) × (x.next.block ≡ under_new s.block))

move_leaves : (r : Option Refusal) (s : Session) → LeavesBoard s move_over (move_step r s)
unfolding moved
move_leaves none s = inr (refl, refl)
move_leaves (some r) s = inl refl

new_leaves : (k : Book) (s : Session) (x : Step) → LeavesBoard s move_over x → LeavesBoard s move_over (unless_new k s x)
new_leaves Old s x e = e
new_leaves New s x e = inl refl

step_leaves : (s : Session) (c : Call) → LeavesBoard s c (step s c)
unfolding step stored
step_leaves s (add n) = inl (add_leaves (add_refused s.block s.nets n) n s)
step_leaves s (add_all ns) = inl (all_leave 0 ns s)
step_leaves s (withdraw k) = inl (withdraw_leaves (net_of k s.nets) s)
step_leaves s take_back = inl (back_leaves s.pile s)
step_leaves s (keep k) = inl (named_leaves k s (accept (stored k s)) refl)
step_leaves s (return_to k) = inl (named_leaves k s (return_step (kept_under k s) s) (return_leaves (kept_under k s) s))
step_leaves s move_over =
    let r = move_refused s.block s.nets in new_leaves s.block.book s (move_step r s) (move_leaves r s)

pub board_stays : (s : Session) (c : Call)
    → ((call s c).next.block ≡ s.block) ⊎ ((c ≡ move_over) × ((call s c).next.block ≡ under_new s.block))
unfolding call
board_stays s c = elim (bool (sound? s)) [ inl e ↦ rw e (step_leaves s c) | inr e ↦ rw e (inl refl) ]
