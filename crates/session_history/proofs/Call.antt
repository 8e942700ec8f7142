-- One call on a sound session: it is the machine's step, it does not get 20, and it hands back a sound session.
-- Assumes of the call only its promise.
use Rattle.std.specs.Prelude.{◌≡◌, refl, Bool, true, false, not, List, [], ◌∷◌, ℕ, ◌+◌, leb}
use Rattle.std.proofs.Common.{ap, inl, inr, arith}
use Rattle.std.proofs.Math.Option.{Option, none, some}
use Rattle.count.specs.Lists.{first}
use Rattle.count.specs.TruthLaws.{bool}
use Rattle.board.specs.Degree.{vertex?}
use Rattle.board.specs.Order.{reading_order}
use Rattle.board.specs.declared.Vertex.{Vertex}
use Rattle.board_block.specs.declared.Book.{Book}
use Rattle.board_block.specs.declared.Book.TheVariants.{Old, New}
use Rattle.net.specs.Terminals.{same}
use Rattle.net.specs.declared.Net.{Net}
use Rattle.net.specs.declared.Change.{Change}
use Rattle.session_rules.specs.Session as machine
use Rattle.session_rules.specs.Session.{last_name, Kept, kept_under, holds, net_of}
use Rattle.session_rules.specs.Refusal.{Refusal, line, first_refusal}
use Rattle.session_rules.specs.Add.{good_number, full, add_lines, add_refused}
use Rattle.session_rules.specs.NewRule.{over_new?, over_refused, move_refused}
use Rattle.session_rules.specs.Machine.{
  Call,
  add,
  add_all,
  withdraw,
  take_back,
  keep,
  return_to,
  move_over,
  Answer,
  accept,
  Step,
  step,
  add_step,
  stop_or,
  add_all_step,
  withdraw_step,
  take_back_step,
  if_name,
  return_step,
  move_step,
  unless_new,
  stored,
  added,
  after,
  answers,
}
use Rattle.session_rules.specs.Sound.{Sound}
use Rattle.session_laws.proofs.Exact.{call_step}
use Rattle.session_laws.proofs.Stays.{stays_sound}
use Rattle.session.specs.declared.Session.{Session}
use Rattle.session.specs.View.{session_of}
use Rattle.session_history.specs.Made.{Made, changed, routed, routed_bytes, Meets, handed, call_of, answer_of, number_of, Never}

-- ── the machine never answers 20 ──
first_not_20 : (a b c d e f g : Bool) (n : Net) (s : machine.Session)
    → number_of (add_step (first_refusal (line a 21 0 ∷ line b 22 0 ∷ line c 23 0 ∷ line d 23 1 ∷ line e 24 0 ∷ line f 25 0 ∷ line g 25 1 ∷ [])) n
    s).answer ≡ 20
    → ⊥
first_not_20 true b c d e f g n s h = omega arith
first_not_20 false true c d e f g n s h = omega arith
first_not_20 false false true d e f g n s h = omega arith
first_not_20 false false false true e f g n s h = omega arith
first_not_20 false false false false true f g n s h = omega arith
first_not_20 false false false false false true g n s h = omega arith
first_not_20 false false false false false false true n s h = omega arith
first_not_20 false false false false false false false n s h = omega arith

add_not_20 : (s : machine.Session) (n : Net) → number_of (add_step (add_refused s.block s.nets n) n s).answer ≡ 20 → ⊥
unfolding add_refused add_lines
add_not_20 s n =
    first_not_20 (not (good_number n.number)) (holds n.number s.nets) (not (vertex? s.block.board n.ends.first))
    (not (vertex? s.block.board n.ends.second)) (same n.ends.first n.ends.second) (full s.block s.nets n.ends.first)
    (full s.block s.nets n.ends.second) n s

-- of a list, the refusal told is that of the net at which it stops
stop_not_20 : (s : machine.Session) (n : Net) (r : Option Refusal) (k : ℕ) (x : Step) → add_refused s.block s.nets n ≡ r
    → (number_of x.answer ≡ 20 → ⊥) → number_of (stop_or r k s x).answer ≡ 20 → ⊥
stop_not_20 s n none k x e f = f
stop_not_20 s n (some r) k x e f = rw e at (add_not_20 s n)

all_not_20 : (k : ℕ) (ns : List Net) (s : machine.Session) → number_of (add_all_step k ns s).answer ≡ 20 → ⊥
unfolding add_all_step
all_not_20 k [] s = λ h. omega arith
all_not_20 k (n ∷ ns) s =
    stop_not_20 s n (add_refused s.block s.nets n) k (add_all_step (k + 1) ns (added n s)) refl (all_not_20 (k + 1) ns (added n s))

withdraw_not_20 : (m : Option Net) (s : machine.Session) → number_of (withdraw_step m s).answer ≡ 20 → ⊥
withdraw_not_20 none s h = omega arith
withdraw_not_20 (some n) s h = omega arith

back_not_20 : (cs : List Change) (s : machine.Session) → number_of (take_back_step cs s).answer ≡ 20 → ⊥
back_not_20 [] s h = omega arith
back_not_20 (c ∷ cs) s h = omega arith

named_not_20 : (k : ℕ) (s : machine.Session) (x : Step) → (number_of x.answer ≡ 20 → ⊥) → number_of (if_name k s x).answer ≡ 20 → ⊥
named_not_20 k s x f = elim (bool (leb k last_name)) [ inl e ↦ rw e f | inr e ↦ rw e (λ h. omega arith) ]

return_not_20 : (x : Kept) (s : machine.Session) → number_of (return_step x s).answer ≡ 20 → ⊥
return_not_20 none s h = omega arith
return_not_20 (some ns) s h = omega arith

move_not_20 : (x : Option Vertex) (s : machine.Session) → number_of (move_step (over_refused x) s).answer ≡ 20 → ⊥
move_not_20 none s h = omega arith
move_not_20 (some v) s h = omega arith

new_not_20 : (k : Book) (s : machine.Session) (x : Step) → (number_of x.answer ≡ 20 → ⊥) → number_of (unless_new k s x).answer ≡ 20 → ⊥
new_not_20 Old s x f = f
new_not_20 New s x f = λ h. omega arith

pub step_not_20 : (s : machine.Session) (c : Call) → number_of (step s c).answer ≡ 20 → ⊥
unfolding step move_refused
step_not_20 s (add n) = add_not_20 s n
step_not_20 s (add_all ns) = all_not_20 0 ns s
step_not_20 s (withdraw k) = withdraw_not_20 (net_of k s.nets) s
step_not_20 s take_back = back_not_20 s.pile s
step_not_20 s (keep k) = named_not_20 k s (accept (stored k s)) (λ h. omega arith)
step_not_20 s (return_to k) = named_not_20 k s (return_step (kept_under k s) s) (return_not_20 (kept_under k s) s)
step_not_20 s move_over =
    new_not_20 s.block.book s (move_step (move_refused s.block s.nets) s) (move_not_20 (first (over_new? s.block s.nets) reading_order) s)

-- ── a call that met its promise ──
-- DEFINITION: after one call from the session s, all is as the machine has it
pub record MadeAs (s : Session) (m : Made) : Type 0 where
  pub session : session_of (handed s m) ≡ after (session_of s) (call_of m)
  pub answer : answer_of m ≡ answers (session_of s) (call_of m)
  pub no_20 : Never 20 (answer_of m)
  pub sound : Sound (session_of (handed s m))

-- A sound session stays sound, and the call was the machine's.
pub made_as : (s : Session) (m : Made) → Sound (session_of s) → Meets s m → MadeAs s m
unfolding after answers
made_as s (changed c a t) h k =
    let g = call_step (session_of s) c h in
    let x : a ≡ (step (session_of s) c).answer = rw g at k.answers in
    let y : session_of t ≡ (step (session_of s) c).next = rw g at k.next in
    record {
      session = y;
      answer = ap (λ (b : Answer). b ∷ []) x;
      no_20 = (rw x (step_not_20 (session_of s) c), tt);
      sound = rw y (stays_sound (session_of s) c h);
    }
made_as s (routed before r after) h k = record { session = refl; answer = refl; no_20 = tt; sound = h }
made_as s (routed_bytes before r after) h k = record { session = refl; answer = refl; no_20 = tt; sound = h }
