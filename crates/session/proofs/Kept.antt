-- A call that hands back the value of its definition keeps its promise.
-- Assumes nothing.
use Rattle.std.specs.Prelude.{◌≡◌, refl, true, ℕ, eqb, None, Some, Result, Ok, Err, is_ok}
use Rattle.std.proofs.Common.{inl, inr}
use Rattle.count.specs.TruthLaws.{bool}
use Rattle.board_block.specs.View.{block_of}
use Rattle.net.specs.declared.Net.{Net}
use Rattle.session_rules.specs.Machine.{accepted, add, withdraw, take_back}
use Rattle.session_rules.specs.Sound.{sound?, call}
use Rattle.session_laws.proofs.Exact.{sound_exact}
use Rattle.net_places.specs.Places.{nets_of, place_at}
use Rattle.session.specs.declared.Session.{Session}
use Rattle.session.specs.declared.After.{After}
use Rattle.session_answers.specs.declared.AddRefusal.{AddRefusal}
use Rattle.session_answers.specs.declared.WithdrawRefusal.{WithdrawRefusal}
use Rattle.session_answers.specs.declared.TakeBackRefusal.{TakeBackRefusal}
use Rattle.session_answers.specs.Answers.{add_answer}
use Rattle.session_add.specs.Lines.{check_of}
use Rattle.session_answers.specs.Answers.{withdraw_answer, take_back_answer}
use Rattle.session.specs.View.{session_of, Sized}
use Rattle.session.specs.Value.{add_sound, withdraw_held, withdraw_sound, take_back_sound, add_of, withdraw_of, take_back_of}
use Rattle.session.specs.Promise.{AddPromise, WithdrawPromise, TakeBackPromise}
use Rattle.session.proofs.Steps.{add-answer, add_next, withdraw-answer, withdraw_next, take-back-answer, take_back_next}
use Rattle.net.specs.View.{Held}

-- ── add ──
add_answers : (s : Session) (n : Net) → add_answer (add_of s n).answer ≡ (call (session_of s) (add n)).answer
unfolding add_of call
add_answers s n = elim (bool (sound? (session_of s))) [ inl e ↦ rw e (add-answer s n) | inr e ↦ rw e refl ]

add_nexts : (s : Session) (n : Net) → Sized s → session_of (add_of s n).session ≡ (call (session_of s) (add n)).next
unfolding add_of call
add_nexts s n z = elim (bool (sound? (session_of s))) [ inl e ↦ rw e (add_next s n z ((sound_exact (session_of s)).0 e)) | inr e ↦ rw e refl ]

pub told : (a : Result Unit AddRefusal) → is_ok a ≡ true → add_answer a ≡ accepted
told (Ok u) e = refl
told (Err r) e = cc

pub add_kept : (s : Session) (n : Net) → (add_answer (add_sound s n).answer ≡ accepted → ⊥) → (add_sound s n).session ≡ s
unfolding add_sound
add_kept s n r =
    let a = check_of (block_of s.block) (nets_of s.nets) n in
    elim (bool (is_ok a)) [ inl e ↦ absurd (r (told a e)) | inr e ↦ rw e refl ]

add_keeps : (s : Session) (n : Net) → (add_answer (add_of s n).answer ≡ accepted → ⊥) → (add_of s n).session ≡ s
unfolding add_of
add_keeps s n = elim (bool (sound? (session_of s))) [ inl e ↦ rw e (add_kept s n) | inr e ↦ rw e (λ r. refl) ]

pub add_promise : (s : Session) (n : Net) (r : After (Result Unit AddRefusal)) → Sized s → r ≡ add_of s n → AddPromise s n r
add_promise s n r z e = rw e (record { value = refl; call = record { answers = add_answers s n; next = add_nexts s n z }; kept = add_keeps s n })

-- ── withdraw ──
withdraw_answers : (s : Session) (k : ℕ) → withdraw_answer (withdraw_of s k).answer ≡ (call (session_of s) (withdraw k)).answer
unfolding withdraw_of call
withdraw_answers s k = elim (bool (sound? (session_of s))) [ inl e ↦ rw e (withdraw-answer s k) | inr e ↦ rw e refl ]

withdraw_nexts : (s : Session) (k : ℕ) → Sized s → session_of (withdraw_of s k).session ≡ (call (session_of s) (withdraw k)).next
unfolding withdraw_of call
withdraw_nexts s k z = elim (bool (sound? (session_of s))) [ inl e ↦ rw e (withdraw_next s k z ((sound_exact (session_of s)).0 e)) | inr e ↦ rw e refl ]

held_kept : (s : Session) (k : ℕ) (x : Held) → (withdraw_answer (withdraw_held s k x).answer ≡ accepted → ⊥) → (withdraw_held s k x).session ≡ s
held_kept s k None r = refl
held_kept s k (Some e) r = absurd (r refl)

withdraw_keeps : (s : Session) (k : ℕ) → (withdraw_answer (withdraw_of s k).answer ≡ accepted → ⊥) → (withdraw_of s k).session ≡ s
unfolding withdraw_of withdraw_sound
withdraw_keeps s k = elim (bool (sound? (session_of s))) [ inl e ↦ rw e (held_kept s k (place_at s.nets k)) | inr e ↦ rw e (λ r. refl) ]

pub withdraw_promise : (s : Session) (k : ℕ) (r : After (Result Unit WithdrawRefusal)) → Sized s → r ≡ withdraw_of s k → WithdrawPromise s k r
withdraw_promise s k r z e = rw e (record {
  value = refl;
  call = record { answers = withdraw_answers s k; next = withdraw_nexts s k z };
  kept = withdraw_keeps s k;
})

-- ── take back ──
take_back_answers : (s : Session) → take_back_answer (take_back_of s).answer ≡ (call (session_of s) take_back).answer
unfolding take_back_of call
take_back_answers s = elim (bool (sound? (session_of s))) [ inl e ↦ rw e (take-back-answer s) | inr e ↦ rw e refl ]

take_back_nexts : (s : Session) → Sized s → session_of (take_back_of s).session ≡ (call (session_of s) take_back).next
unfolding take_back_of call
take_back_nexts s z = elim (bool (sound? (session_of s))) [ inl e ↦ rw e (take_back_next s z ((sound_exact (session_of s)).0 e)) | inr e ↦ rw e refl ]

back_kept : (s : Session) → (take_back_answer (take_back_sound s).answer ≡ accepted → ⊥) → (take_back_sound s).session ≡ s
unfolding take_back_sound
back_kept s = elim (bool (eqb s.pile.depth 0)) [ inl e ↦ rw e (λ r. refl) | inr e ↦ rw e (λ r. absurd (r refl)) ]

take_back_keeps : (s : Session) → (take_back_answer (take_back_of s).answer ≡ accepted → ⊥) → (take_back_of s).session ≡ s
unfolding take_back_of
take_back_keeps s = elim (bool (sound? (session_of s))) [ inl e ↦ rw e (back_kept s) | inr e ↦ rw e (λ r. refl) ]

pub take_back_promise : (s : Session) (r : After (Result Unit TakeBackRefusal)) → Sized s → r ≡ take_back_of s → TakeBackPromise s r
take_back_promise s r z e = rw e (record {
  value = refl;
  call = record { answers = take_back_answers s; next = take_back_nexts s z };
  kept = take_back_keeps s;
})
