-- Keep and return, as values of the code, are the list machine's, and keep their promises.
-- Assumes nothing.
use Rattle.std.specs.Prelude.{◌≡◌, refl, ℕ, leb, get_or, None, Some, Result}
use Rattle.std.proofs.Common.{inl, inr}
use Rattle.count.specs.TruthLaws.{bool}
use Rattle.session_rules.specs.Session.{last_name}
use Rattle.session_rules.specs.Machine.{accepted, keep, return_to, return_step, step, stored, returned}
use Rattle.session_rules.specs.Sound.{sound?, call}
use Rattle.session_pile.specs.Pile.{pile_of, changes_of}
use Rattle.session_names.specs.Names.{Stored, kept_in}
use Rattle.session_names.proofs.NamesLaws.{kept_stored, kept_there}
use Rattle.session_answers.specs.Answers.{keep_answer, return_answer}
use Rattle.session.specs.declared.Session.{Session}
use Rattle.session.specs.declared.After.{After}
use Rattle.session_answers.specs.declared.KeepRefusal.{KeepRefusal}
use Rattle.session_answers.specs.declared.ReturnRefusal.{ReturnRefusal}
use Rattle.session.specs.View.{session_of}
use Rattle.session.specs.Value.{keep_sound, return_layout, return_sound, keep_of, return_of}
use Rattle.session.specs.Promise.{CallPromise, KeepPromise, ReturnPromise}

-- ── keep ──
keep-answer : (s : Session) (k : ℕ) → keep_answer (keep_sound s k).answer ≡ (step (session_of s) (keep k)).answer
unfolding step keep_sound
keep-answer s k = elim (bool (leb k last_name)) [ inl e ↦ rw e refl | inr e ↦ rw e refl ]

keep_next : (s : Session) (k : ℕ) → session_of (keep_sound s k).session ≡ (step (session_of s) (keep k)).next
unfolding step keep_sound stored
keep_next s k = elim (bool (leb k last_name)) [ inl e ↦ rw (e, kept_stored s.names k s.nets) refl | inr e ↦ rw e refl ]

keep_same : (s : Session) (k : ℕ) → (keep_answer (keep_sound s k).answer ≡ accepted → ⊥) → (keep_sound s k).session ≡ s
unfolding keep_sound
keep_same s k = elim (bool (leb k last_name)) [ inl e ↦ rw e (λ r. absurd (r refl)) | inr e ↦ rw e (λ r. refl) ]

keep_call : (s : Session) (k : ℕ) → CallPromise s (keep k) (keep_answer (keep_of s k).answer) (keep_of s k).session
unfolding keep_of call
keep_call s k = elim (bool (sound? (session_of s))) [
  | inl e ↦ rw e (record { answers = rw e (keep-answer s k); next = rw e (keep_next s k) })
  | inr e ↦ rw e (record { answers = rw e refl; next = rw e refl })
]

pub keep_promise : (s : Session) (k : ℕ) (r : After (Result Unit KeepRefusal)) → r ≡ keep_of s k → KeepPromise s k r
unfolding keep_of
keep_promise s k r e = rw e (record {
  value = refl;
  call = keep_call s k;
  kept = elim (bool (sound? (session_of s))) [ inl f ↦ rw f (keep_same s k) | inr f ↦ rw f (λ r. refl) ];
})

-- ── return ──
layout_answer : (s : Session) (l : Stored) → return_answer (return_layout s l).answer ≡ (return_step (kept_in l) (session_of s)).answer
layout_answer s None = refl
layout_answer s (Some ps) = refl

layout_next : (s : Session) (l : Stored) → session_of (return_layout s l).session ≡ (return_step (kept_in l) (session_of s)).next
unfolding returned pile_of changes_of
layout_next s None = refl
layout_next s (Some ps) = refl

layout_same : (s : Session) (l : Stored) → (return_answer (return_layout s l).answer ≡ accepted → ⊥) → (return_layout s l).session ≡ s
layout_same s None = λ r. refl
layout_same s (Some ps) = λ r. absurd (r refl)

return-answer : (s : Session) (k : ℕ) → return_answer (return_sound s k).answer ≡ (step (session_of s) (return_to k)).answer
unfolding step return_sound
return-answer s k = elim (bool (leb k last_name)) [
  | inl e ↦ rw (e, kept_there s.names k) (layout_answer s (get_or s.names k None))
  | inr e ↦ rw e refl
]

return_next : (s : Session) (k : ℕ) → session_of (return_sound s k).session ≡ (step (session_of s) (return_to k)).next
unfolding step return_sound
return_next s k = elim (bool (leb k last_name)) [
  | inl e ↦ rw (e, kept_there s.names k) (layout_next s (get_or s.names k None))
  | inr e ↦ rw e refl
]

return_same : (s : Session) (k : ℕ) → (return_answer (return_sound s k).answer ≡ accepted → ⊥) → (return_sound s k).session ≡ s
unfolding return_sound
return_same s k = elim (bool (leb k last_name)) [
  | inl e ↦ rw e (layout_same s (get_or s.names k None))
  | inr e ↦ rw e (λ r. refl)
]

return_call : (s : Session) (k : ℕ) → CallPromise s (return_to k) (return_answer (return_of s k).answer) (return_of s k).session
unfolding return_of call
return_call s k = elim (bool (sound? (session_of s))) [
  | inl e ↦ rw e (record { answers = rw e (return-answer s k); next = rw e (return_next s k) })
  | inr e ↦ rw e (record { answers = rw e refl; next = rw e refl })
]

pub return_promise : (s : Session) (k : ℕ) (r : After (Result Unit ReturnRefusal)) → r ≡ return_of s k → ReturnPromise s k r
unfolding return_of
return_promise s k r e = rw e (record {
  value = refl;
  call = return_call s k;
  kept = elim (bool (sound? (session_of s))) [ inl f ↦ rw f (return_same s k) | inr f ↦ rw f (λ r. refl) ];
})
