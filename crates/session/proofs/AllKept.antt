-- A list of nets, added one by one as values of the code, is what the list machine makes of the list.
-- Assumes nothing.
use Rattle.std.specs.Prelude.{◌≡◌, refl, true, false, List, [], ◌∷◌, ℕ, zero, suc, ◌+◌, ◌≤◌, take, Result, Ok, Err, is_ok}
use Rattle.std.proofs.Common.{sym, ◌∙◌, inl, inr, arith}
use Rattle.std.proofs.Math.Option.{Option, none, some}
use Rattle.count.specs.TruthLaws.{bool}
use Rattle.board_block.specs.View.{block_of}
use Rattle.net.specs.declared.Net.{Net}
use Rattle.net.specs.declared.Change.TheVariants.{Added}
use Rattle.session_rules.specs.Refusal.{Refusal}
use Rattle.session_rules.specs.Add.{add_refused}
use Rattle.session_rules.specs.Machine.{add, add_all, accepted, refused, went_on, Step, stop_or, add_all_step, step, added}
use Rattle.session_rules.specs.Sound.{Sound, sound?, call}
use Rattle.session_laws.proofs.Exact.{sound_exact}
use Rattle.session_laws.proofs.Stays.{stays_sound}
use Rattle.net_places.proofs.NumberedLaws.{length-replaced}
use Rattle.net_places.specs.Places.{nets_of, holding}
use Rattle.session_pile.specs.Changes.{length_laid}
use Rattle.session_answers.specs.Answers.{add_answer, add_all_answer}
use Rattle.session_add.specs.Lines.{check_of}
use Rattle.session.specs.declared.Session.{Session}
use Rattle.session.specs.declared.After.{After}
use Rattle.session_answers.specs.declared.AddRefusal.{AddRefusal}
use Rattle.session_answers.specs.declared.AddAllAnswer.{AddAllAnswer}
use Rattle.session.specs.View.{session_of, Sized}
use Rattle.session.specs.Value.{add_sound, none_added, with_net, with_each, add_all_of}
use Rattle.session.specs.Promise.{CallPromise, AddAllPromise}
use Rattle.session.proofs.Steps.{add-answer, add_next}
use Rattle.session.proofs.Kept.{told, add_kept}

-- ── one net more ──
-- an answer is accepted exactly where it stands for that
told_accepted : (a : Result Unit AddRefusal) → add_answer a ≡ accepted → is_ok a ≡ true
told_accepted (Ok u) e = refl
told_accepted (Err r) e = cc

told_refused : (a : Result Unit AddRefusal) (r : Refusal) → add_answer a ≡ refused r → is_ok a ≡ false
told_refused a r e = elim (bool (is_ok a)) [
  | inl f ↦ absurd (let g : accepted ≡ refused r = sym (told a f) ∙ e in let z : ◌≡◌ {A = ℕ} 0 1 = cc in omega arith)
  | inr f ↦ f
]

-- no more is tried after one that was refused
pub each_refused : (ns : List Net) (a : After AddAllAnswer) → is_ok a.answer.last ≡ false → with_each a ns ≡ a
unfolding with_each
each_refused [] a e = refl
each_refused (n ∷ ns) a e = rw e refl

sized_added : (s : Session) (n : Net) → Sized s → Sized (add_sound s n).session
unfolding add_sound
sized_added s n z = elim (bool (is_ok (check_of (block_of s.block) (nets_of s.nets) n))) [
  | inl e ↦ rw e (record {
    nets64 = length-replaced s.nets n.number (holding n.ends) ∙ z.nets64;
    pile64 = length_laid s.pile (Added n) (let l = z.pile64 in omega arith) ∙ z.pile64;
  })
  | inr e ↦ rw e z
]

-- ── the nets of the list ──
-- DEFINITION: what a came to is what the machine hands back
record AsStep (a : After AddAllAnswer) (x : Step) : Type 0 where
  answers : add_all_answer a.answer ≡ x.answer
  next : session_of a.session ≡ x.next

-- the net is refused, and the list stops there
one_refused : (a : After AddAllAnswer) (n : Net) (ns : List Net) (r : Refusal) → Sized a.session → Sound (session_of a.session)
    → add_refused (block_of a.session.block) (nets_of a.session.nets) n ≡ some r
    → AsStep (with_each (with_net a n) ns) (record { answer = went_on a.answer.count (some r); next = session_of a.session })
unfolding with_net step
one_refused a n ns r z h e =
    let f : add_answer (add_sound a.session n).answer ≡ refused r = add-answer a.session n ∙ rw e refl in
    let g = told_refused (add_sound a.session n).answer r f in
    rw (each_refused ns (with_net a n) g) (record { answers = rw (g, f) refl; next = add_next a.session n z h ∙ rw e refl })

-- the net is accepted, and the list goes on from the session with it
one_accepted : (a : After AddAllAnswer) (n : Net) → Sized a.session → Sound (session_of a.session)
    → add_refused (block_of a.session.block) (nets_of a.session.nets) n ≡ none
    → (is_ok (with_net a n).answer.last ≡ true) × ((with_net a n).answer.count ≡ a.answer.count + 1)
    × (session_of (with_net a n).session ≡ added n (session_of a.session))
unfolding with_net step
one_accepted a n z h e =
    let f : add_answer (add_sound a.session n).answer ≡ accepted = add-answer a.session n ∙ rw e refl in
    let g = told_accepted (add_sound a.session n).answer f in
    (g, rw g refl, add_next a.session n z h ∙ rw e refl)

-- DEFINITION: nothing was refused so far
record Underway (a : After AddAllAnswer) : Type 0 where
  sized : Sized a.session
  sound : Sound (session_of a.session)
  well : is_ok a.answer.last ≡ true

underway_one : (a : After AddAllAnswer) (n : Net) → Underway a → add_refused (block_of a.session.block) (nets_of a.session.nets) n ≡ none
    → Underway (with_net a n)
unfolding with_net step
underway_one a n u e =
    let o = one_accepted a n u.sized u.sound e in
    let t : Sound (step (session_of a.session) (add n)).next = stays_sound (session_of a.session) (add n) u.sound in
    record { sized = sized_added a.session n u.sized; sound = rw o.2 (rw e at t); well = o.0 }

one_as : (a : After AddAllAnswer) (n : Net) (ns : List Net) (r : Option Refusal) → Underway a
    → add_refused (block_of a.session.block) (nets_of a.session.nets) n ≡ r
    → (Underway (with_net a n) → AsStep (with_each (with_net a n) ns) (add_all_step (with_net a n).answer.count ns (session_of (with_net a n).session)))
    → AsStep (with_each (with_net a n) ns)
    (stop_or r a.answer.count (session_of a.session) (add_all_step (a.answer.count + 1) ns (added n (session_of a.session))))
one_as a n ns none u e k =
    let o = one_accepted a n u.sized u.sound e in
    rw (← o.1, ← o.2) (k (underway_one a n u e))
one_as a n ns (some r) u e k = one_refused a n ns r u.sized u.sound e

all_as : (ns : List Net) (a : After AddAllAnswer) → Underway a → AsStep (with_each a ns) (add_all_step a.answer.count ns (session_of a.session))
unfolding with_each add_all_step
all_as [] a u = record { answers = rw (told a.answer.last u.well) refl; next = refl }
all_as (n ∷ ns) a u =
    let s = a.session in
    rw u.well (one_as a n ns (add_refused (block_of s.block) (nets_of s.nets) n) u refl (λ v. all_as ns (with_net a n) v))

-- ── the promise ──
all_call : (s : Session) (ns : List Net) → Sized s
    → CallPromise s (add_all ns) (add_all_answer (add_all_of s ns).answer) (add_all_of s ns).session
unfolding call none_added step
all_call s ns z = elim (bool (sound? (session_of s))) [
  | inl e ↦
      let a = all_as ns (none_added s) (record { sized = z; sound = (sound_exact (session_of s)).0 e; well = rw e refl }) in
      record { answers = rw e (rw e at a.answers); next = rw e (rw e at a.next) }
  | inr e ↦ let g = each_refused ns (none_added s) (rw e refl) in rw g (record { answers = rw e refl; next = rw e refl })
]

-- ── a list of which none went on changes nothing ──
count_one : (a : After AddAllAnswer) (n : Net) → a.answer.count ≤ (with_net a n).answer.count
unfolding with_net
count_one a n = elim (bool (is_ok (add_sound a.session n).answer)) [ inl e ↦ rw e (omega arith) | inr e ↦ rw e (omega arith) ]

count_each : (ns : List Net) (a : After AddAllAnswer) → a.answer.count ≤ (with_each a ns).answer.count
unfolding with_each
count_each [] a = omega arith
count_each (n ∷ ns) a =
    let l = count_one a n in
    let m = count_each ns (with_net a n) in
    elim (bool (is_ok a.answer.last)) [ inl e ↦ rw e (omega arith) | inr e ↦ rw e (omega arith) ]

one_kept : (a : After AddAllAnswer) (n : Net) → (with_net a n).answer.count ≡ a.answer.count → (with_net a n).session ≡ a.session
unfolding with_net
one_kept a n c = elim (bool (is_ok (add_sound a.session n).answer)) [
  | inl e ↦ absurd (let d : a.answer.count + 1 ≡ a.answer.count = rw e at c in omega arith)
  | inr e ↦ add_kept a.session n (λ f. let g : true ≡ false = sym (told_accepted (add_sound a.session n).answer f) ∙ e in
      absurd (let z : ◌≡◌ {A = ℕ} 0 1 = cc in omega arith))
]

each_none : (ns : List Net) (a : After AddAllAnswer) → (with_each a ns).answer.count ≡ a.answer.count → (with_each a ns).session ≡ a.session
unfolding with_each
each_none [] a c = refl
each_none (n ∷ ns) a c = elim (bool (is_ok a.answer.last)) [
  | inl e ↦
      let d : (with_each (with_net a n) ns).answer.count ≡ a.answer.count = rw e at c in
      let l = count_one a n in
      let m = count_each ns (with_net a n) in
      rw e (each_none ns (with_net a n) (omega arith) ∙ one_kept a n (omega arith))
  | inr e ↦ rw e refl
]

-- ── the nets that went on would have left the same by themselves ──
one_counted : (a : After AddAllAnswer) (n : Net) → is_ok (with_net a n).answer.last ≡ true → (with_net a n).answer.count ≡ a.answer.count + 1
unfolding with_net
one_counted a n e = rw e refl

each_kept : (ns : List Net) (a : After AddAllAnswer) (k : ℕ) → (with_each a ns).answer.count ≡ a.answer.count + k
    → (with_each a ns).session ≡ (with_each a (take k ns)).session
unfolding with_each
each_kept ns a zero c = each_none ns a (omega arith)
each_kept [] a (suc k) c = refl
each_kept (n ∷ ns) a (suc k) c = elim (bool (is_ok a.answer.last)) [
  | inl e ↦
      let b = with_net a n in
      let d : (with_each b ns).answer.count ≡ a.answer.count + suc k = rw e at c in
      rw e (elim (bool (is_ok b.answer.last)) [
        | inl f ↦ let g = one_counted a n f in each_kept ns b k (omega arith)
        | inr f ↦ rw (each_refused ns b f, each_refused (take k ns) b f) refl
      ])
  | inr e ↦ rw e refl
]

all_kept : (s : Session) (ns : List Net) → (add_all_of s ns).session ≡ (add_all_of s (take (add_all_of s ns).answer.count ns)).session
unfolding none_added
all_kept s ns = each_kept ns (none_added s) (add_all_of s ns).answer.count (omega arith)

pub add_all_promise : (s : Session) (ns : List Net) (r : After AddAllAnswer) → Sized s → r ≡ add_all_of s ns → AddAllPromise s ns r
add_all_promise s ns r z e = rw e (record { value = refl; call = all_call s ns z; kept = all_kept s ns })
