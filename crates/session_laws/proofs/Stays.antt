-- Every call leads from a sound session of the machine to a sound one. A bare convex board is a sound session.
-- Assumes nothing.
use Rattle.std.specs.Prelude.{◌≡◌, refl, true, ◌&&◌, List, [], ◌∷◌, ◌⊎◌, ℕ, zero, suc, ◌+◌, ◌≤◌, leb, length, take, get_or}
use Rattle.std.proofs.Common.{ap, sym, ◌∙◌, inl, inr, arith, length-take, length-set, leb-true}
use Rattle.std.proofs.Math.Option.{Option, none, some}
use Rattle.std.proofs.lemmas.List.{get_or-replicate}
use Rattle.std.proofs.Math.ListN.{get_or-eq_default}
use Rattle.count.specs.Lists.{first}
use Rattle.count.specs.TruthLaws.{bool, and_true, and_yes, eq_or_ne, le_or_lt}
use Rattle.board.specs.Board.{Within}
use Rattle.board.specs.Path.{Convex}
use Rattle.board.specs.Order.{reading_order}
use Rattle.board.specs.declared.Vertex.{Vertex}
use Rattle.board_block.specs.Block.{Block}
use Rattle.board_block.specs.Taken.{taken_fine?}
use Rattle.board_block.specs.declared.Book.{Book}
use Rattle.board_block.specs.declared.Book.TheVariants.{Old, New}
use Rattle.net.specs.declared.Net.{Net}
use Rattle.net.specs.declared.Change.{Change}
use Rattle.net.specs.declared.Change.TheVariants.{Added, Withdrawn}
use Rattle.session_rules.specs.Session.{last_name, name_count, nothing_kept, Kept, Session, kept_under, insert, remove, net_of}
use Rattle.session_rules.specs.Add.{add_refused, accepts}
use Rattle.session_rules.specs.Refusal.{Refusal}
use Rattle.session_rules.specs.NewRule.{under_new, over_new?, over_refused, move_refused}
use Rattle.session_rules.specs.Moves.{NoneOver}
use Rattle.session_rules.specs.Machine.{
  Call,
  add,
  add_all,
  withdraw,
  take_back,
  keep,
  return_to,
  move_over,
  accept,
  Step,
  stop_or,
  add_step,
  add_all_step,
  withdraw_step,
  take_back_step,
  if_name,
  return_step,
  move_step,
  unless_new,
  step,
  lay,
  pile_limit,
  added,
  withdrawn,
  reversed,
  taken_back,
  stored,
  returned,
  moved,
}
use Rattle.session_rules.specs.Sound.{rising?, addable?, liftable?, lifts?, Sound, Fresh, bare}
use Rattle.session_laws.proofs.Names.{keep_stores, keep_other}
use Rattle.session_laws.proofs.Accept.{free_of, free_accepted}
use Rattle.session_laws.proofs.Insert.{net_of_number, recorded_insert, remove_insert}
use Rattle.session_laws.proofs.Rising.{rising_from, from_rising, insert_remove}
use Rattle.session_laws.specs.Fine.{Fine}
use Rattle.session_laws.proofs.FineLaws.{fine_insert, fine_remove, free_removed}
use Rattle.session_laws.proofs.Addable.{fine_of, fine_addable}
use Rattle.session_laws.proofs.NewRule.{taken-new, fine-new, over_none}

pub sound_fine : (s : Session) → Sound s → Fine s.block s.nets
sound_fine s h = fine_of s.block s.nets (rising_from s.nets h.rising) h.addable

-- the board and the names stay, the nets keep within the board, and the pile is short and can be lifted
fine_sound : (s t : Session) → Sound s → t.block ≡ s.block → t.names ≡ s.names → Fine s.block t.nets → length t.pile ≤ pile_limit
    → lifts? s.block t.nets t.pile ≡ true → Sound t
fine_sound s t h e n f l k = record {
  within = rw e h.within;
  convex = rw e h.convex;
  taken = rw e h.taken;
  rising = from_rising t.nets f.rising;
  addable = rw e (fine_addable s.block t.nets f);
  short = l;
  lifts = rw e k;
  eight = rw n h.eight;
  kept_rising = rw n h.kept_rising;
  kept_addable = rw (e, n) h.kept_addable;
}

-- ── a change is laid on the pile ──
lifts_take : (b : Block) (ns : List Net) (k : ℕ) (cs : List Change) → lifts? b ns cs ≡ true → lifts? b ns (take k cs) ≡ true
unfolding lifts?
lifts_take b ns zero cs e = refl
lifts_take b ns (suc k) [] e = refl
lifts_take b ns (suc k) (c ∷ cs) e =
    let t = and_true (liftable? b ns c) (lifts? b (reversed c ns) cs) e in
    and_yes (liftable? b ns c) (lifts? b (reversed c ns) (take k cs)) t.0 (lifts_take b (reversed c ns) k cs t.1)

lifts_lay : (b : Block) (ns : List Net) (c : Change) (cs : List Change) → liftable? b ns c ≡ true → lifts? b (reversed c ns) cs ≡ true
    → lifts? b ns (lay c cs) ≡ true
unfolding lay lifts?
lifts_lay b ns c cs e f = lifts_take b ns pile_limit (c ∷ cs) (and_yes (liftable? b ns c) (lifts? b (reversed c ns) cs) e f)

short_lay : (c : Change) (cs : List Change) → length (lay c cs) ≤ pile_limit
unfolding lay
short_lay c cs = short pile_limit (c ∷ cs)
  where
    short : (k : ℕ) (cs : List Change) → length (take k cs) ≤ k
    short k cs = omega (arith, length-take k cs)

-- ── a session to start from ──
-- nothing is kept under any name
none_kept : (k : ℕ) → get_or nothing_kept k none ≡ none
none_kept k = elim (le_or_lt name_count k) [
  | inl l ↦ get_or-eq_default nothing_kept none {n = k} (omega arith)
  | inr l ↦ get_or-replicate name_count k none none l
]

-- A bare board that is within the limits and convex, with pins taken that are there, is a fresh session.
pub fresh_bare : (b : Block) → Within b.board → Convex b.board → taken_fine? b ≡ true → Fresh (bare b)
unfolding rising? addable? lifts?
fresh_bare b w c t = record {
  sound = record {
    within = w;
    convex = c;
    taken = t;
    rising = refl;
    addable = refl;
    short = omega arith;
    lifts = refl;
    eight = refl;
    kept_rising = λ k ns e. absurd (never k ns e);
    kept_addable = λ k ns e. absurd (never k ns e);
  };
  no-nets = refl;
  no_pile = refl;
  none_kept = refl;
}
  where
    never : (k : ℕ) (ns : List Net) → get_or nothing_kept k none ≡ some ns → ⊥
    never k ns e = let n : none ≡ some ns = sym (none_kept k) ∙ e in let z : ◌≡◌ {A = ℕ} 0 1 = cc in omega arith

-- ── each call ──
sound_added : (s : Session) (n : Net) → Sound s → accepts s.block s.nets n ≡ true → Sound (added n s)
unfolding added liftable? reversed
sound_added s n h e =
    let f = free_of s.block s.nets n e in
    fine_sound s (added n s) h refl refl (fine_insert s.block s.nets n (sound_fine s h) f) (short_lay (Added n) s.pile)
    (lifts_lay s.block (insert n s.nets) (Added n) s.pile (recorded_insert n s.nets) (rw (remove_insert n s.nets f.new) h.lifts))

sound_withdrawn : (s : Session) (k : ℕ) (n : Net) → Sound s → net_of k s.nets ≡ some n → Sound (withdrawn n s)
unfolding withdrawn liftable? reversed
sound_withdrawn s k n h e =
    let i : remove n.number s.nets ≡ remove k s.nets = ap (λ (j : ℕ). remove j s.nets) (net_of_number k s.nets n e) in
    let f = sound_fine s h in
    let back = insert_remove 0 k s.nets n f.rising e in
    let fine : Fine s.block (remove n.number s.nets) = rw i (fine_remove s.block k s.nets f) in
    let free : accepts s.block (remove n.number s.nets) n ≡ true
    = rw i (free_accepted s.block (remove k s.nets) n (free_removed s.block k s.nets n f e)) in
    fine_sound s (withdrawn n s) h refl refl fine (short_lay (Withdrawn n) s.pile)
    (lifts_lay s.block (remove n.number s.nets) (Withdrawn n) s.pile free (rw (i, back) h.lifts))

fine_reversed : (b : Block) (ns : List Net) (c : Change) → Fine b ns → liftable? b ns c ≡ true → Fine b (reversed c ns)
unfolding liftable? reversed
fine_reversed b ns (Added n) f e = fine_remove b n.number ns f
fine_reversed b ns (Withdrawn n) f e = fine_insert b ns n f (free_of b ns n e)

sound_back : (s : Session) (c : Change) (cs : List Change) → Sound s → s.pile ≡ c ∷ cs → Sound (taken_back c cs s)
unfolding taken_back lifts?
sound_back s c cs h e =
    let l : liftable? s.block s.nets c && lifts? s.block (reversed c s.nets) cs ≡ true = rw e at h.lifts in
    let t = and_true (liftable? s.block s.nets c) (lifts? s.block (reversed c s.nets) cs) l in
    let n : suc (length cs) ≤ pile_limit = rw e at h.short in
    fine_sound s (taken_back c cs s) h refl refl (fine_reversed s.block s.nets c (sound_fine s h) t.0) (omega arith) t.1

-- ── names ──
-- what a name holds after a keep: the nets on the board, or what it held
kept_which : (s : Session) (k : ℕ) → Sound s → k ≤ last_name → (j : ℕ) (ns : List Net) → kept_under j (stored k s) ≡ some ns
    → (ns ≡ s.nets) ⊎ (kept_under j s ≡ some ns)
kept_which s k h l j ns e = elim (eq_or_ne k j) [
  | inl f ↦ inl (let g : some s.nets ≡ some ns = sym (keep_stores s k h l) ∙ (rw (← f) at e) in cc)
  | inr f ↦ inr (sym (keep_other s k j f) ∙ e)
]

sound_kept : (s : Session) (k : ℕ) → Sound s → k ≤ last_name → Sound (stored k s)
unfolding stored
sound_kept s k h l = record {
  within = h.within;
  convex = h.convex;
  taken = h.taken;
  rising = h.rising;
  addable = h.addable;
  short = h.short;
  lifts = h.lifts;
  eight = length-set s.names k (some s.nets) ∙ h.eight;
  kept_rising = λ j ns e. elim (kept_which s k h l j ns e) [ inl f ↦ rw f h.rising | inr f ↦ h.kept_rising j ns f ];
  kept_addable = λ j ns e. elim (kept_which s k h l j ns e) [ inl f ↦ rw f h.addable | inr f ↦ h.kept_addable j ns f ];
}

-- nets that a name holds are as good as new, and an empty pile can be lifted
sound_returned : (s : Session) (k : ℕ) (ns : List Net) → Sound s → kept_under k s ≡ some ns → Sound (returned ns s)
unfolding returned lifts?
sound_returned s k ns h e = record {
  within = h.within;
  convex = h.convex;
  taken = h.taken;
  rising = h.kept_rising k ns e;
  addable = h.kept_addable k ns e;
  short = omega arith;
  lifts = refl;
  eight = h.eight;
  kept_rising = h.kept_rising;
  kept_addable = h.kept_addable;
}

-- what the new rule has pins for stands under it as well, and an empty pile and no names are fine on any board
sound_moved : (s : Session) → Sound s → NoneOver s.block s.nets → Sound (moved s)
unfolding moved lifts?
sound_moved s h n =
    let f = sound_fine s h in
    let t = taken-new s.block s.nets h.taken f n in
    let none = (fresh_bare (under_new s.block) h.within h.convex t).sound in
    record {
      within = h.within;
      convex = h.convex;
      taken = t;
      rising = h.rising;
      addable = fine_addable (under_new s.block) s.nets (fine-new s.block s.nets h.taken f n);
      short = omega arith;
      lifts = refl;
      eight = none.eight;
      kept_rising = none.kept_rising;
      kept_addable = none.kept_addable;
    }

pub add_stays : (s : Session) (n : Net) (r : Option Refusal) → add_refused s.block s.nets n ≡ r → Sound s → Sound (add_step r n s).next
unfolding accepts
add_stays s n none e h = sound_added s n h (rw e refl)
add_stays s n (some r) e h = h

-- a net that is refused changes nothing, and after one that is accepted the others go on
stop_stays : (s : Session) (n : Net) (r : Option Refusal) (k : ℕ) (x : Step) → add_refused s.block s.nets n ≡ r → Sound s
    → (Sound (added n s) → Sound x.next) → Sound (stop_or r k s x).next
stop_stays s n none k x e h f = f (add_stays s n none e h)
stop_stays s n (some r) k x e h f = h

all_stays : (k : ℕ) (ns : List Net) (s : Session) → Sound s → Sound (add_all_step k ns s).next
unfolding add_all_step
all_stays k [] s h = h
all_stays k (n ∷ ns) s h =
    stop_stays s n (add_refused s.block s.nets n) k (add_all_step (k + 1) ns (added n s)) refl h (λ g. all_stays (k + 1) ns (added n s) g)

withdraw_stays : (s : Session) (k : ℕ) (m : Option Net) → net_of k s.nets ≡ m → Sound s → Sound (withdraw_step m s).next
withdraw_stays s k none e h = h
withdraw_stays s k (some n) e h = sound_withdrawn s k n h e

back_stays : (s : Session) (cs : List Change) → s.pile ≡ cs → Sound s → Sound (take_back_step cs s).next
back_stays s [] e h = h
back_stays s (c ∷ cs) e h = sound_back s c cs h e

named_stays : (k : ℕ) (s : Session) (x : Step) → Sound s → (k ≤ last_name → Sound x.next) → Sound (if_name k s x).next
named_stays k s x h f = elim (bool (leb k last_name)) [ inl e ↦ rw e (f (leb-true k last_name e)) | inr e ↦ rw e h ]

return_stays : (s : Session) (k : ℕ) (x : Kept) → kept_under k s ≡ x → Sound s → Sound (return_step x s).next
return_stays s k none e h = h
return_stays s k (some ns) e h = sound_returned s k ns h e

move_stays : (s : Session) (x : Option Vertex) → first (over_new? s.block s.nets) reading_order ≡ x → Sound s
    → Sound (move_step (over_refused x) s).next
move_stays s none e h = sound_moved s h ((over_none s.block s.nets h.within).0 e)
move_stays s (some v) e h = h

new_stays : (k : Book) (s : Session) (x : Step) → Sound s → Sound x.next → Sound (unless_new k s x).next
new_stays Old s x h f = f
new_stays New s x h f = h

-- A sound session stays sound.
pub stays_sound : (s : Session) (c : Call) → Sound s → Sound (step s c).next
unfolding step move_refused
stays_sound s (add n) h = add_stays s n (add_refused s.block s.nets n) refl h
stays_sound s (add_all ns) h = all_stays 0 ns s h
stays_sound s (withdraw k) h = withdraw_stays s k (net_of k s.nets) refl h
stays_sound s take_back h = back_stays s s.pile refl h
stays_sound s (keep k) h = named_stays k s (accept (stored k s)) h (sound_kept s k h)
stays_sound s (return_to k) h = named_stays k s (return_step (kept_under k s) s) h (λ l. return_stays s k (kept_under k s) refl h)
stays_sound s move_over h =
    new_stays s.block.book s (move_step (move_refused s.block s.nets) s) h
    (move_stays s (first (over_new? s.block s.nets) reading_order) refl h)
