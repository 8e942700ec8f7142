-- A move to the new rule (document 02, §10): the machine's call does what the request says (`moves`); what it leaves is what the nets leave that are
-- entered afresh under the new book, none refused (`as_afresh`); and 39 comes exactly where, under the new book, a taken pin would get 38 or one of
-- these adds would be refused (`refused-exactly`).
-- Assumes for the last two that the session is sound, and for `as_afresh` that the move was accepted.
use Rattle.std.specs.Prelude.{◌≡◌, true, false, not, ◌&&◌, List, [], ◌∷◌, ◌++◌, ◌↔◌, ℕ, suc, length, replicate}
use Rattle.std.proofs.Math.Path.{refl}
use Rattle.std.proofs.Common.{ap, sym, ◌∙◌, subst, append-nil, inl, inr, arith}
use Rattle.std.proofs.Math.Option.{Option, none, some}
use Rattle.count.specs.TruthLaws.{bool, clash, not_true, and_true, and_yes}
use Rattle.count.specs.Lists.{first}
use Rattle.board.specs.Order.{reading_order}
use Rattle.board.specs.declared.Vertex.{Vertex}
use Rattle.board_block.specs.Block.{Block}
use Rattle.board_block.specs.Taken.{in_order?, one_or_two, over_taken, all_there?, taken_fine?}
use Rattle.board_block.specs.declared.Book.{Book}
use Rattle.board_block.specs.declared.Book.TheVariants.{Old, New}
use Rattle.board_block.specs.declared.TakenPins.{TakenPins}
use Rattle.net.specs.declared.Net.{Net}
use Rattle.session_rules.specs.Refusal.{Refusal}
use Rattle.session_rules.specs.Session.{Session, insert}
use Rattle.session_rules.specs.Add.{accepts}
use Rattle.session_rules.specs.NewRule.{under_new, over_new?, over_refusal, over_refused, move_refused}
use Rattle.session_rules.specs.Machine.{move_over, Answer, accepted, refused, accept, Step, added, moved, move_step, step, after, answers}
use Rattle.session_rules.specs.OneByOne.{singly}
use Rattle.session_rules.specs.Sound.{addable?, Sound, bare, call}
use Rattle.session_rules.specs.Moves.{NoneOver, Moves, NoneRefused, Afresh, OneOverTaken, RefusedAfresh}
use Rattle.session_laws.proofs.Exact.{call_step, unsound_call}
use Rattle.session_laws.specs.Rising.{From}
use Rattle.session_laws.proofs.Rising.{rising_from}
use Rattle.session_laws.proofs.InOrder.{Below, below_more, one_more, below_next, accepted_none}
use Rattle.session_laws.specs.Fine.{Fine}
use Rattle.session_laws.proofs.Addable.{fine_of, fine_addable}
use Rattle.session_laws.proofs.NewRule.{over_none, over_first, taken-new, fine-new, new_none_over}
use Rattle.session_laws.proofs.Stays.{sound_fine, stays_sound}
use Rattle.session_laws.proofs.OneByOne.{add-accepted, accepted-only, head_same}

-- ── sentence by sentence ──
module _ (s : Session) where
  -- DEFINITION: the vertex that 39 names, if there is one
  abbrev found : Option Vertex
  found = first (over_new? s.block s.nets) reading_order

  call-already : Sound s → s.block.book ≡ New → call s move_over ≡ accept s
  unfolding step
  call-already h e = call_step s move_over h ∙ rw e refl

  call-moves : Sound s → s.block.book ≡ Old → call s move_over ≡ move_step (over_refused found) s
  unfolding step move_refused
  call-moves h e = call_step s move_over h ∙ rw e refl

  pub moves : Moves s (call s move_over).answer (call s move_over).next
  unfolding moved
  moves = record {
    unsound = λ n. let e = unsound_call s move_over n in (rw e refl, rw e refl);
    already = λ h k. let e = call-already h k in (rw e refl, rw e refl);
    refuses = λ h k v f. let e = call-moves h k in let g = (over_first s.block s.nets h.within v).1 f in (rw (e, g) refl, rw (e, g) refl);
    moves = λ h k n. let e = call-moves h k in let g = (over_none s.block s.nets h.within).1 n in
        (rw (e, g) refl, rw (e, g) refl, rw (e, g) refl, rw (e, g) refl, rw (e, g) refl);
  }

-- ── nets entered afresh ──
-- DEFINITION: nets added one by one to the session u: none is refused, the block stays, and they stand behind those that are on already
record Entered (u : Session) (ns : List Net) : Type 0 where
  accepts_all : answers u (singly ns) ≡ replicate (length ns) accepted
  block : (after u (singly ns)).block ≡ u.block
  nets : (after u (singly ns)).nets ≡ u.nets ++ ns

entered : (ns : List Net) (u : Session) (k : ℕ) → Below k u.nets → From k ns → addable? u.block u.nets ns ≡ true → Entered u ns
unfolding addable? answers after added
entered [] u k b f e = record { accepts_all = refl; block = refl; nets = sym (append-nil u.nets) }
entered (n ∷ ns) u k b f e =
    let t = and_true (accepts u.block u.nets n) (addable? u.block (insert n u.nets) ns) e in
    let a = add-accepted u n (accepted_none u.block u.nets n t.0) in
    let g = below_more k n.number u.nets f.0 b in
    let r = entered ns (added n u) (suc n.number) (below_next n u.nets g) f.1 t.1 in
    record {
      accepts_all = rw (a.0, a.1) (ap (λ (l : List Answer). accepted ∷ l) r.accepts_all);
      block = ap (λ (t : Session). (after t (singly ns)).block) a.1 ∙ r.block;
      nets = ap (λ (t : Session). (after t (singly ns)).nets) a.1 ∙ r.nets ∙ one_more n u.nets ns g;
    }

-- of any sound session: its nets could have been entered so
afresh : (t : Session) → Sound t → Afresh t.block t.nets t
afresh t h =
    let r = entered t.nets (bare t.block) 0 tt (rising_from t.nets h.rising) h.addable in
    record { none_refused = r.accepts_all; block = r.block; nets = r.nets }

-- and nets that can be entered so could all be added
all_addable : (ns : List Net) (u : Session) → answers u (singly ns) ≡ replicate (length ns) accepted → addable? u.block u.nets ns ≡ true
unfolding addable? answers added accepts
all_addable [] u e = refl
all_addable (n ∷ ns) u e =
    let h = head_same _ _ _ _ e in
    let x = accepted-only u n h.0 in
    let r : addable? u.block (insert n u.nets) ns ≡ true = all_addable ns (added n u) (rw (add-accepted u n x).1 at h.1) in
    and_yes (accepts u.block u.nets n) (addable? u.block (insert n u.nets) ns) (rw x refl) r

-- ── what an accepted move leaves ──
under-new : (s : Session) → s.block.book ≡ New → s.block ≡ under_new s.block
under-new s e = λ i. record { board = s.block.board; book = e i; taken = s.block.taken }

module _ (s : Session) (a : (call s move_over).answer ≡ accepted) where
  -- DEFINITION: the session that it leaves
  abbrev next : Session
  next = (call s move_over).next

  not-refused : (r : Refusal) → (call s move_over).answer ≡ refused r → ⊥
  not-refused r e = let f : accepted ≡ refused r = sym a ∙ e in let z : ◌≡◌ {A = ℕ} 0 1 = cc in omega arith

  module _ (h : Sound s) where
    pub next-sound : Sound next
    next-sound = subst Sound (sym (ap (λ (x : Step). x.next) (call_step s move_over h))) (stays_sound s move_over h)

    -- by the book that the session was under
    left_by : (k : Book) → s.block.book ≡ k → (next.block ≡ under_new s.block) × (next.nets ≡ s.nets)
    left_by New e =
        let t = ((moves s).already h e).1 in
        (ap (λ (u : Session). u.block) t ∙ under-new s e, ap (λ (u : Session). u.nets) t)
    left_by Old e = go (found s) refl
      where
        go : (x : Option Vertex) → found s ≡ x → (next.block ≡ under_new s.block) × (next.nets ≡ s.nets)
        go none f = let m = (moves s).moves h e ((over_none s.block s.nets h.within).0 f) in (m.1, m.2)
        go (some v) f = absurd (not-refused (over_refusal v) ((moves s).refuses h e v ((over_first s.block s.nets h.within v).0 f)).0)

    pub next-block : next.block ≡ under_new s.block
    next-block = (left_by s.block.book refl).0

    pub next-nets : next.nets ≡ s.nets
    next-nets = (left_by s.block.book refl).1

    pub as_afresh : Afresh (under_new s.block) s.nets next
    as_afresh =
        subst (λ (b : Block). Afresh b s.nets next) next-block
        (subst (λ (ns : List Net). Afresh next.block ns next) next-nets (afresh next next-sound))

-- ── 39 exactly ──
-- one of the pins is not there by a book, though it is by another: it is one too many
one_over : (j : Book) (b : Block) (ts : List TakenPins) → all_there? j b.board ts ≡ true → all_there? b.book b.board ts ≡ false
    → OneOverTaken b ts
unfolding all_there?
one_over j b [] e f = clash refl f
one_over j b (t ∷ ts) e f =
    let x = and_true (one_or_two t.count && not (over_taken j b.board t)) (all_there? j b.board ts) e in
    let c = (and_true (one_or_two t.count) (not (over_taken j b.board t)) x.0).0 in
    elim (bool (over_taken b.book b.board t)) [
      | inl o ↦ inl o
      | inr o ↦ inr (one_over j b ts x.1 (rw (c, o) at f))
    ]

-- and one that is too many is not there
over_not_there : (b : Block) (ts : List TakenPins) → OneOverTaken b ts → all_there? b.book b.board ts ≡ false
unfolding all_there?
over_not_there b [] o = absurd o
over_not_there b (t ∷ ts) (inl e) = not_true (all_there? b.book b.board (t ∷ ts)) (λ y.
    let x = (and_true (one_or_two t.count && not (over_taken b.book b.board t)) (all_there? b.book b.board ts) y).0 in
    let n = (and_true (one_or_two t.count) (not (over_taken b.book b.board t)) x).1 in
    clash n (rw e refl))
over_not_there b (t ∷ ts) (inr o) = not_true (all_there? b.book b.board (t ∷ ts)) (λ y.
    clash (and_true (one_or_two t.count && not (over_taken b.book b.board t)) (all_there? b.book b.board ts) y).1 (over_not_there b ts o))

module _ (s : Session) (h : Sound s) where
  -- DEFINITION: the block and its taken pins, by the new rule
  abbrev new : Block
  new = under_new s.block

  abbrev there : Type 0
  there = all_there? New s.block.board s.block.taken ≡ true

  order-there : (in_order? s.block.taken ≡ true) × (all_there? s.block.book s.block.board s.block.taken ≡ true)
  order-there = and_true (in_order? s.block.taken) (all_there? s.block.book s.block.board s.block.taken) h.taken

  -- what could be entered afresh is nowhere more than the new rule has pins for
  entered-none-over : there → NoneRefused new s.nets → NoneOver s.block s.nets
  entered-none-over t n =
      new_none_over s.block s.nets
      (and_yes (in_order? s.block.taken) (all_there? New s.block.board s.block.taken) order-there.0 t)
      (fine_of new s.nets (rising_from s.nets h.rising) (all_addable s.nets (bare new) n))

  none-over-entered : NoneOver s.block s.nets → RefusedAfresh s.block s.nets → ⊥
  none-over-entered n (inl o) =
      let t = taken-new s.block s.nets h.taken (sound_fine s h) n in
      clash (and_true (in_order? s.block.taken) (all_there? New s.block.board s.block.taken) t).1 (over_not_there new s.block.taken o)
  none-over-entered n (inr r) =
      let a = fine_addable new s.nets (fine-new s.block s.nets h.taken (sound_fine s h) n) in
      r (entered s.nets (bare new) 0 tt (rising_from s.nets h.rising) a).accepts_all

  -- DEFINITION: the call told 39
  abbrev Told39 : Type 0
  Told39 = (v : Vertex) × ((call s move_over).answer ≡ refused (over_refusal v))

  told-39 : s.block.book ≡ Old → (x : Option Vertex) → found s ≡ x → RefusedAfresh s.block s.nets → Told39
  told-39 old none e r = absurd (none-over-entered ((over_none s.block s.nets h.within).0 e) r)
  told-39 old (some v) e r = (v, ((moves s).refuses h old v ((over_first s.block s.nets h.within v).0 e)).0)

  exactly-by : (k : Book) → s.block.book ≡ k → Told39 ↔ RefusedAfresh s.block s.nets
  exactly-by Old old = (
    λ k. elim (bool (all_there? New s.block.board s.block.taken)) [
      | inl t ↦ inr (λ n. not-refused s ((moves s).moves h old (entered-none-over t n)).0 (over_refusal k.0) k.1)
      | inr t ↦ inl (one_over s.block.book new s.block.taken order-there.1 t)
    ],
    told-39 old (found s) refl,
  )
  -- a sound session under the new rule has no such vertex, and what is entered afresh is what it has
  exactly-by New e =
      let same : s.block ≡ new = under-new s e in
      let t = subst (λ (b : Block). taken_fine? b ≡ true) same h.taken in
      let f = subst (λ (b : Block). Fine b s.nets) same (sound_fine s h) in (
        λ k. absurd (not-refused s ((moves s).already h e).0 (over_refusal k.0) k.1),
        λ r. absurd (none-over-entered (new_none_over s.block s.nets t f) r),
      )

  pub refused-exactly : Told39 ↔ RefusedAfresh s.block s.nets
  refused-exactly = exactly-by s.block.book refl
