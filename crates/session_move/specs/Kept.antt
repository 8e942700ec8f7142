-- A move that hands back the value of its definition keeps its promise.
-- Assumes nothing.
use Rattle.std.specs.Prelude.{◌≡◌, refl, Result}
use Rattle.std.proofs.Common.{inl, inr}
use Rattle.std.proofs.Math.Option.{Option, none, some}
use Rattle.count.specs.TruthLaws.{bool}
use Rattle.count.specs.Lists.{first}
use Rattle.board.specs.Order.{reading_order}
use Rattle.board.specs.declared.Vertex.{Vertex}
use Rattle.board_block.specs.View.{block_of}
use Rattle.board_block.specs.declared.Book.{Book}
use Rattle.board_block.specs.declared.Book.TheVariants.{Old, New}
use Rattle.cut_search.specs.Found.{found_vertex}
use Rattle.session_rules.specs.NewRule.{over_new?, over_refused, move_refused}
use Rattle.session_rules.specs.Machine as machine
use Rattle.session_rules.specs.Machine.{move_over, accepted, Step, move_step, unless_new, step}
use Rattle.session_rules.specs.Sound.{sound?, call}
use Rattle.net_places.specs.Places.{nets_of}
use Rattle.session_pile.specs.Pile.{pile_of, changes_of}
use Rattle.session_answers.specs.Answers.{move_answer}
use Rattle.session.specs.declared.Session.{Session}
use Rattle.session.specs.Promise.{CallPromise}
use Rattle.session.specs.Value.{fresh_of}
use Rattle.session.specs.View.{session_of}
use Rattle.session.specs.declared.After.{After}
use Rattle.session_answers.specs.declared.MoveRefusal.{MoveRefusal}
use Rattle.session_move.specs.Value.{moved, move_found, move_old, move_by, move_sound, move_of}
use Rattle.session_move.specs.Promise.{MovePromise}

-- DEFINITION: what the code handed back is what the machine hands back
record AsStep (r : After (Result Unit MoveRefusal)) (x : Step) : Type 0 where
  answers : move_answer r.answer ≡ x.answer
  next : session_of r.session ≡ x.next

found_as : (x : Option Vertex) (s : Session) → AsStep (move_found (found_vertex x) s) (move_step (over_refused x) (session_of s))
unfolding moved fresh_of machine.moved pile_of changes_of
found_as none s = record { answers = refl; next = refl }
found_as (some v) s = record { answers = refl; next = refl }

old_as : (s : Session) → AsStep (move_old s) (move_step (move_refused (block_of s.block) (nets_of s.nets)) (session_of s))
unfolding move_old move_refused
old_as s = found_as (first (over_new? (block_of s.block) (nets_of s.nets)) reading_order) s

by_as : (k : Book) (s : Session) (x : Step) → AsStep (move_old s) x → AsStep (move_by k s) (unless_new k (session_of s) x)
by_as Old s x a = a
by_as New s x a = record { answers = refl; next = refl }

sound_as : (s : Session) → AsStep (move_sound s) (step (session_of s) move_over)
unfolding move_sound step
sound_as s = by_as s.block.book s (move_step (move_refused (block_of s.block) (nets_of s.nets)) (session_of s)) (old_as s)

move_call : (s : Session) → CallPromise s move_over (move_answer (move_of s).answer) (move_of s).session
unfolding move_of call
move_call s = elim (bool (sound? (session_of s))) [
  | inl e ↦ let a = sound_as s in rw e (record { answers = rw e a.answers; next = rw e a.next })
  | inr e ↦ rw e (record { answers = rw e refl; next = rw e refl })
]

-- ── the very session that was given ──
found_same : (x : Option Vertex) (s : Session) → (move_answer (move_found (found_vertex x) s).answer ≡ accepted → ⊥)
    → (move_found (found_vertex x) s).session ≡ s
found_same none s n = absurd (n refl)
found_same (some v) s n = refl

by_same : (k : Book) (s : Session) → (move_answer (move_by k s).answer ≡ accepted → ⊥) → (move_by k s).session ≡ s
unfolding move_old
by_same Old s = found_same (first (over_new? (block_of s.block) (nets_of s.nets)) reading_order) s
by_same New s = λ n. refl

move_kept : (s : Session) → (move_answer (move_of s).answer ≡ accepted → ⊥) → (move_of s).session ≡ s
unfolding move_of move_sound
move_kept s = elim (bool (sound? (session_of s))) [ inl e ↦ rw e (by_same s.block.book s) | inr e ↦ rw e (λ n. refl) ]

move_already : (s : Session) → s.block.book ≡ New → (move_of s).session ≡ s
unfolding move_of move_sound
move_already s k = elim (bool (sound? (session_of s))) [ inl e ↦ rw (e, k) refl | inr e ↦ rw e refl ]

pub move_promise : (s : Session) (r : After (Result Unit MoveRefusal)) → r ≡ move_of s → MovePromise s r
move_promise s r e = rw e (record { value = refl; call = move_call s; kept = move_kept s; already = move_already s })
