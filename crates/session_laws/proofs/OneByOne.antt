-- A list of nets added in one call is the single adds, one by one, up to the first that is refused: it is so (`one_by_one`), and what is so is the
-- call's answer and session (`one_by_one_only`). With single adds of the nets that went on, and of the one refused after them, the session is the
-- same (`tried_next`).
-- Assumes nothing.
use Rattle.std.specs.Prelude.{◌≡◌, List, [], ◌∷◌, ◌++◌, ℕ, suc, ◌+◌, length, replicate, take}
use Rattle.std.proofs.Math.Path.{refl}
use Rattle.std.proofs.Common.{ap, sym, ◌∙◌, subst, add-zero, zero-add, arith, add-one}
use Rattle.std.proofs.Math.Option.{Option, none, some}
use Rattle.net.specs.declared.Net.{Net}
use Rattle.session_rules.specs.Session.{Session}
use Rattle.session_rules.specs.Refusal.{Refusal}
use Rattle.session_rules.specs.Add.{add_refused}
use Rattle.session_rules.specs.Machine.{
  add,
  add_all,
  Answer,
  accepted,
  refused,
  went_on,
  Step,
  add_step,
  stop_or,
  add_all_step,
  added,
  step,
  after,
  answers,
}
use Rattle.session_rules.specs.OneByOne.{singly, StopsAt, OneByOne}

-- ── what a single add does, by its refusal ──
answer_accepted : (r : Option Refusal) (n : Net) (s : Session) → (add_step r n s).answer ≡ accepted → r ≡ none
answer_accepted none n s e = refl
answer_accepted (some q) n s e = absurd (let z : ◌≡◌ {A = ℕ} 0 1 = cc in omega arith)

answer_refused : (r : Option Refusal) (q : Refusal) (n : Net) (s : Session) → (add_step r n s).answer ≡ refused q → r ≡ some q
answer_refused none q n s e = absurd (let z : ◌≡◌ {A = ℕ} 0 1 = cc in omega arith)
answer_refused (some p) q n s e = cc

module _ (s : Session) (n : Net) where
  pub add-accepted : add_refused s.block s.nets n ≡ none → ((step s (add n)).answer ≡ accepted) × ((step s (add n)).next ≡ added n s)
  unfolding step
  add-accepted e = (rw e refl, rw e refl)

  add-refused : (r : Refusal) → add_refused s.block s.nets n ≡ some r → (step s (add n)).answer ≡ refused r
  unfolding step
  add-refused r e = rw e refl

  pub accepted-only : (step s (add n)).answer ≡ accepted → add_refused s.block s.nets n ≡ none
  unfolding step
  accepted-only e = answer_accepted (add_refused s.block s.nets n) n s e

  refused-only : (r : Refusal) → (step s (add n)).answer ≡ refused r → add_refused s.block s.nets n ≡ some r
  unfolding step
  refused-only r e = answer_refused (add_refused s.block s.nets n) r n s e

  refused_same : (r : Refusal) → (step s (add n)).answer ≡ refused r → (step s (add n)).next ≡ s
  unfolding step
  refused_same r e = rw (refused-only r e) refl

-- ── the call is the single adds ──
-- DEFINITION: what is handed back where i nets went on
abbrev stopped : (i : ℕ) → Option Refusal → Session → Step
stopped i r t = record { answer = went_on i r; next = t }

-- DEFINITION: x is handed back where k nets of the list were on already
record Resumed (k : ℕ) (s : Session) (ns : List Net) (x : Step) : Type 0 where
  answer : Answer
  these : OneByOne s ns answer x.next
  told : x.answer ≡ went_on (k + length these.on) these.refusal

from_none : (k : ℕ) (s : Session) (ns : List Net) (r : Option Refusal) → StopsAt s ns r → Resumed k s ns (stopped k r s)
unfolding after answers
from_none k s ns r e = record {
  answer = went_on 0 r;
  these = record { on = []; left = ns; in_order = refl; went = refl; stay = refl; refusal = r; stops = e; told = refl };
  told = rw (add-zero k) refl;
}

from_one : (k : ℕ) (s : Session) (n : Net) (ns : List Net) (r : Option Refusal) (x : Step) → add_refused s.block s.nets n ≡ r
    → Resumed (k + 1) (added n s) ns x → Resumed k s (n ∷ ns) (stop_or r k s x)
unfolding after answers
from_one k s n ns none x e f =
    let a = add-accepted s n e in
    let o = f.these in
    record {
      answer = went_on (suc (length o.on)) o.refusal;
      these = record {
        on = n ∷ o.on;
        left = o.left;
        in_order = ap (λ (l : List Net). n ∷ l) o.in_order;
        went = rw (a.0, a.1) (ap (λ (l : List Answer). accepted ∷ l) o.went);
        stay = o.stay ∙ ap (λ (t : Session). after t (singly o.on)) (sym a.1);
        refusal = o.refusal;
        stops = o.stops;
        told = refl;
      };
      told = f.told ∙ ap (λ (i : ℕ). went_on i o.refusal) (omega arith);
    }
from_one k s n ns (some r) x e f = from_none k s (n ∷ ns) (some r) (add-refused s n r e)

all_from : (k : ℕ) (ns : List Net) (s : Session) → Resumed k s ns (add_all_step k ns s)
unfolding add_all_step
all_from k [] s = from_none k s [] none refl
all_from k (n ∷ ns) s =
    from_one k s n ns (add_refused s.block s.nets n) (add_all_step (k + 1) ns (added n s)) refl (all_from (k + 1) ns (added n s))

pub one_by_one : (s : Session) (ns : List Net) → OneByOne s ns (step s (add_all ns)).answer (step s (add_all ns)).next
unfolding step
one_by_one s ns =
    let f = all_from 0 ns s in
    let o = f.these in
    let e : (add_all_step 0 ns s).answer ≡ f.answer = f.told ∙ ap (λ (i : ℕ). went_on i o.refusal) (zero-add (length o.on)) ∙ sym o.told in
    subst (λ (a : Answer). OneByOne s ns a (add_all_step 0 ns s).next) (sym e) o

-- ── what is the single adds is the call ──
-- DEFINITION: what is handed back where these nets went on, after k others
abbrev ended : (k : ℕ) → Session → (on : List Net) → Option Refusal → Step
ended k s on r = stopped (k + length on) r (after s (singly on))

only_none : (k : ℕ) (s : Session) (left : List Net) (r : Option Refusal) → StopsAt s left r → add_all_step k left s ≡ ended k s [] r
unfolding add_all_step after
only_none k s left none e = rw (e, add-zero k) refl
only_none k s [] (some q) e = absurd e
only_none k s (n ∷ ns) (some q) e = rw (refused-only s n q e, add-zero k) refl

pub head_same : (a b : Answer) (xs ys : List Answer) → a ∷ xs ≡ b ∷ ys → (a ≡ b) × (xs ≡ ys)
head_same a b xs ys e = (cc, cc)

only_from : (k : ℕ) (on : List Net) (s : Session) (left : List Net) (r : Option Refusal) → answers s (singly on) ≡ replicate (length on) accepted
    → StopsAt (after s (singly on)) left r → add_all_step k (on ++ left) s ≡ ended k s on r
unfolding add_all_step after answers
only_from k [] s left r w e = only_none k s left r e
only_from k (n ∷ on) s left r w e =
    let h = head_same _ _ _ _ w in
    let x = accepted-only s n h.0 in
    let y = (add-accepted s n x).1 in
    let f = only_from (k + 1) on (added n s) left r (rw y at h.1) (subst (λ (t : Session). StopsAt (after t (singly on)) left r) y e) in
    rw x (f ∙ ap (λ (i : ℕ). stopped i r (after (added n s) (singly on))) (omega arith)
    ∙ ap (λ (t : Session). stopped (k + suc (length on)) r (after t (singly on))) (sym y))

pub one_by_one_only : (s : Session) (ns : List Net) (a : Answer) (t : Session) → OneByOne s ns a t
    → (a ≡ (step s (add_all ns)).answer) × (t ≡ (step s (add_all ns)).next)
unfolding step
one_by_one_only s ns a t o =
    let e : add_all_step 0 ns s ≡ ended 0 s o.on o.refusal
    = rw o.in_order (only_from 0 o.on s o.left o.refusal o.went (rw o.stay at o.stops)) in (
      o.told ∙ sym (ap (λ (x : Step). x.answer) e ∙ ap (λ (i : ℕ). went_on i o.refusal) (zero-add (length o.on))),
      o.stay ∙ sym (ap (λ (x : Step). x.next) e),
    )

-- ── the single adds that come to the same: those that went on, and the one that was refused after them ──
one_tried : (s : Session) (left : List Net) (r : Option Refusal) → StopsAt s left r → after s (singly (take 1 left)) ≡ s
unfolding after
one_tried s [] r e = refl
one_tried s (n ∷ ns) none e = absurd (let z : ◌≡◌ {A = ℕ} 0 1 = cc in omega arith)
one_tried s (n ∷ ns) (some q) e = refused_same s n q e

all_tried : (on : List Net) (s : Session) (left : List Net) (r : Option Refusal) → StopsAt (after s (singly on)) left r
    → after s (singly (take (suc (length on)) (on ++ left))) ≡ after s (singly on)
unfolding after
all_tried [] s left r e = one_tried s left r e
all_tried (n ∷ on) s left r e = all_tried on (step s (add n)).next left r e

pub tried_next : (s : Session) (ns : List Net) (k : ℕ) (r : Option Refusal) → (step s (add_all ns)).answer ≡ went_on k r
    → after s (singly (take (k + 1) ns)) ≡ (step s (add_all ns)).next
tried_next s ns k r e =
    let o = one_by_one s ns in
    let c : went_on k r ≡ went_on (length o.on) o.refusal = sym e ∙ o.told in
    let f : k + 1 ≡ suc (length o.on) = add-one k ∙ ap suc (cc) in
    ap (λ (i : ℕ). after s (singly (take i ns))) f ∙ ap (λ (ms : List Net). after s (singly (take (suc (length o.on)) ms))) o.in_order
    ∙ all_tried o.on s o.left o.refusal (subst (λ (t : Session). StopsAt t o.left o.refusal) o.stay o.stops) ∙ sym o.stay
