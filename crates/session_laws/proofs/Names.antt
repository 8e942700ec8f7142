-- The names of a session (document 02, §5): the machine's keep and return do what the request says (`keeps`, `returns`), no call but a keep under it
-- and a move to the new rule (§10) changes what a name holds (`names_stay`), and so a return to the name brings back the nets that were kept,
-- whatever calls came between but these (`comes_back`).
-- Assumes nothing.
use Rattle.std.specs.Prelude.{◌≡◌, List, [], ◌∷◌, ℕ, ◌+◌, ◌≤◌, ◌<◌, leb, get_or}
use Rattle.std.proofs.Math.Path.{refl}
use Rattle.std.proofs.Common.{ap, sym, ◌∙◌, arith, length-set, get_or-set_same, get_or-set_other, le-leb}
use Rattle.std.proofs.Math.Logic.{inl, inr}
use Rattle.std.proofs.Math.Option.{Option, none, some}
use Rattle.std.proofs.Math.ListN.{length}
use Rattle.std.proofs.lemmas.Bool.{lt-leb}
use Rattle.count.specs.TruthLaws.{bool}
use Rattle.net.specs.declared.Net.{Net}
use Rattle.net.specs.declared.Change.{Change}
use Rattle.session_rules.specs.Session.{last_name, Kept, Session, with_nets, kept_under, net_of}
use Rattle.session_rules.specs.Refusal.{Refusal, refusal}
use Rattle.session_rules.specs.Add.{add_refused}
use Rattle.session_rules.specs.Machine.{
  Call,
  add,
  add_all,
  withdraw,
  take_back,
  keep,
  return_to,
  move_over,
  refuse,
  accept,
  Step,
  add_step,
  stop_or,
  add_all_step,
  withdraw_step,
  take_back_step,
  if_name,
  return_step,
  step,
  added,
  withdrawn,
  taken_back,
  stored,
  returned,
  after,
}
use Rattle.session_rules.specs.Sound.{Sound, sound?, call}
use Rattle.session_rules.specs.Names.{Keeps, Returns, ChangesName, Untouched}
use Rattle.session_laws.proofs.Exact.{call_step, unsound_call}

-- ── the calls that leave all names as they are ──
add_same : (r : Option Refusal) (n : Net) (s : Session) → (add_step r n s).next.names ≡ s.names
unfolding added
add_same none n s = refl
add_same (some r) n s = refl

stop_same : (r : Option Refusal) (k : ℕ) (s : Session) (x : Step) → x.next.names ≡ s.names → (stop_or r k s x).next.names ≡ s.names
stop_same none k s x e = e
stop_same (some r) k s x e = refl

all_same : (k : ℕ) (ns : List Net) (s : Session) → (add_all_step k ns s).next.names ≡ s.names
unfolding add_all_step added
all_same k [] s = refl
all_same k (n ∷ ns) s =
    stop_same (add_refused s.block s.nets n) k s (add_all_step (k + 1) ns (added n s)) (all_same (k + 1) ns (added n s))

withdraw_same : (m : Option Net) (s : Session) → (withdraw_step m s).next.names ≡ s.names
unfolding withdrawn
withdraw_same none s = refl
withdraw_same (some n) s = refl

back_same : (cs : List Change) (s : Session) → (take_back_step cs s).next.names ≡ s.names
unfolding taken_back
back_same [] s = refl
back_same (c ∷ cs) s = refl

return_same : (x : Kept) (s : Session) → (return_step x s).next.names ≡ s.names
unfolding returned
return_same none s = refl
return_same (some ns) s = refl

-- ── one name ──
pub keep_other : (s : Session) (j k : ℕ) → (j ≡ k → ⊥) → kept_under k (stored j s) ≡ kept_under k s
unfolding stored
keep_other s j k d = get_or-set_other s.names j k (some s.nets) none (λ e. d (sym e))

under : (k : ℕ) {ks ls : List Kept} → ks ≡ ls → get_or ks k none ≡ get_or ls k none
under k e = ap (λ (ks : List Kept). get_or ks k none) e

named_stay : (j k : ℕ) (s : Session) (x : Step) → kept_under k x.next ≡ kept_under k s → kept_under k (if_name j s x).next ≡ kept_under k s
named_stay j k s x f = elim (bool (leb j last_name)) [ inl e ↦ rw e f | inr e ↦ rw e refl ]

step_stays : (s : Session) (c : Call) (k : ℕ) → (ChangesName k c → ⊥) → kept_under k (step s c).next ≡ kept_under k s
unfolding step
step_stays s (add n) k d = under k (add_same (add_refused s.block s.nets n) n s)
step_stays s (add_all ns) k d = under k (all_same 0 ns s)
step_stays s (withdraw n) k d = under k (withdraw_same (net_of n s.nets) s)
step_stays s take_back k d = under k (back_same s.pile s)
step_stays s (keep j) k d = named_stay j k s (accept (stored j s)) (keep_other s j k d)
step_stays s (return_to j) k d = named_stay j k s (return_step (kept_under j s) s) (under k (return_same (kept_under j s) s))
step_stays s move_over k d = absurd (d tt)

-- no call but a keep under it and a move to the new rule changes what a name holds
pub names_stay : (s : Session) (c : Call) (k : ℕ) → (ChangesName k c → ⊥) → kept_under k (call s c).next ≡ kept_under k s
unfolding call
names_stay s c k d = elim (bool (sound? s)) [ inl e ↦ rw e (step_stays s c k d) | inr e ↦ rw e refl ]

pub keep_stores : (s : Session) (k : ℕ) → Sound s → k ≤ last_name → kept_under k (stored k s) ≡ some s.nets
unfolding stored
keep_stores s k h l = get_or-set_same s.names k (some s.nets) none (let n = h.eight in omega arith)

-- ── keep and return, sentence by sentence ──
module _ (s : Session) (k : ℕ) where
  keep-refused : Sound s → last_name < k → call s (keep k) ≡ refuse (refusal 35 0) s
  unfolding step
  keep-refused h l = call_step s (keep k) h ∙ rw (lt-leb k last_name l) refl

  keep-accepted : Sound s → k ≤ last_name → call s (keep k) ≡ accept (stored k s)
  unfolding step
  keep-accepted h l = call_step s (keep k) h ∙ rw (le-leb k last_name l) refl

  -- what no keep changes
  keep-leaves : {A : Type 0} (f : Session → A) → f (stored k s) ≡ f s → f (call s (keep k)).next ≡ f s
  unfolding call step
  keep-leaves f h = elim (bool (sound? s)) [
    | inl e ↦ elim (bool (leb k last_name)) [ inl g ↦ rw (e, g) h | inr g ↦ rw (e, g) refl ]
    | inr e ↦ rw e refl
  ]

  pub keeps : Keeps s k (call s (keep k)).answer (call s (keep k)).next
  unfolding stored
  keeps = record {
    unsound = λ n. let e = unsound_call s (keep k) n in (rw e refl, rw e refl);
    no_name = λ h l. let e = keep-refused h l in (rw e refl, rw e refl);
    stores = λ h l. let e = keep-accepted h l in (rw e refl, rw e (keep_stores s k h l));
    block = keep-leaves (λ (t : Session). t.block) refl;
    nets = keep-leaves (λ (t : Session). t.nets) refl;
    pile = keep-leaves (λ (t : Session). t.pile) refl;
    others = λ j d. keep-leaves (λ (t : Session). kept_under j t) (keep_other s k j (λ e. d (sym e)));
    as_many = keep-leaves (λ (t : Session). length t.names) (length-set s.names k (some s.nets));
  }

  return_refused : Sound s → last_name < k → call s (return_to k) ≡ refuse (refusal 35 0) s
  unfolding step
  return_refused h l = call_step s (return_to k) h ∙ rw (lt-leb k last_name l) refl

  return_named : Sound s → k ≤ last_name → call s (return_to k) ≡ return_step (kept_under k s) s
  unfolding step
  return_named h l = call_step s (return_to k) h ∙ rw (le-leb k last_name l) refl

  -- what no return changes
  return_leaves : {A : Type 0} (f : Session → A) → ((x : Kept) → f (return_step x s).next ≡ f s) → f (call s (return_to k)).next ≡ f s
  unfolding call step
  return_leaves f h = elim (bool (sound? s)) [
    | inl e ↦ elim (bool (leb k last_name)) [ inl g ↦ rw (e, g) (h (kept_under k s)) | inr g ↦ rw (e, g) refl ]
    | inr e ↦ rw e refl
  ]

  return-block : (x : Kept) → (return_step x s).next.block ≡ s.block
  unfolding returned
  return-block none = refl
  return-block (some ns) = refl

  pub returns : Returns s k (call s (return_to k)).answer (call s (return_to k)).next
  unfolding returned
  returns = record {
    unsound = λ n. let e = unsound_call s (return_to k) n in (rw e refl, rw e refl);
    no_name = λ h l. let e = return_refused h l in (rw e refl, rw e refl);
    nothing-kept = λ h l x. let e = return_named h l in (rw (e, x) refl, rw (e, x) refl);
    brings = λ h l ns x. let e = return_named h l in (rw (e, x) refl, rw (e, x) refl, rw (e, x) refl);
    block = return_leaves (λ (t : Session). t.block) return-block;
    names = return_leaves (λ (t : Session). t.names) (λ x. return_same x s);
  }

-- ── kept, and returned to after other calls ──
after_stays : (s : Session) (k : ℕ) (cs : List Call) → Untouched k cs → kept_under k (after s cs) ≡ kept_under k s
unfolding after
after_stays s k [] f = refl
after_stays s k (c ∷ cs) f = after_stays (step s c).next k cs f.1 ∙ step_stays s c k f.0

return_brings : (t : Session) (k : ℕ) (ns : List Net) → k ≤ last_name → kept_under k t ≡ some ns → step t (return_to k) ≡ accept (with_nets t ns [])
unfolding step returned
return_brings t k ns l e = rw (le-leb k last_name l, e) refl

keep_next : (s : Session) (k : ℕ) → k ≤ last_name → (step s (keep k)).next ≡ stored k s
unfolding step
keep_next s k l = rw (le-leb k last_name l) refl

-- "want to go back to the second": the nets are those that were kept, the pile is empty, and the board and all names are as before the return
pub comes_back : (s : Session) (k : ℕ) (cs : List Call) → Sound s → k ≤ last_name → Untouched k cs
    → step (after s (keep k ∷ cs)) (return_to k) ≡ accept (with_nets (after s (keep k ∷ cs)) s.nets [])
unfolding after
comes_back s k cs h l f =
    let holds : kept_under k (after s (keep k ∷ cs)) ≡ some s.nets
    = after_stays (step s (keep k)).next k cs f ∙ ap (λ (t : Session). kept_under k t) (keep_next s k l) ∙ keep_stores s k h l in
    return_brings (after s (keep k ∷ cs)) k s.nets l holds
