-- On a sound session each call hands back what the list machine's step gives.
-- Assumes nothing.
use Rattle.std.specs.Prelude.{◌≡◌, refl, true, cond, ℕ, ◌≤◌, ◌<◌, eqb, None, Some}
use Rattle.std.proofs.Common.{◌∙◌, inl, inr, arith, eqb-true}
use Rattle.std.proofs.Math.Option.{Option, none, some}
use Rattle.std.proofs.lemmas.Bool.{eqb-false}
use Rattle.count.specs.TruthLaws.{bool, and_true}
use Rattle.board_block.specs.View.{block_of}
use Rattle.net.specs.declared.Net.{Net}
use Rattle.net.specs.declared.Change.TheVariants.{Added, Withdrawn}
use Rattle.session_rules.specs.Refusal.{Refusal}
use Rattle.session_rules.specs.Session as machine
use Rattle.session_rules.specs.Add.{add_refused, is_none, accepts}
use Rattle.session_rules.specs.Machine.{add, withdraw, take_back, add_step, withdraw_step, step, added, withdrawn, taken_back, reversed}
use Rattle.session_rules.specs.Sound.{liftable?, lifts?, Sound}
use Rattle.net_places.specs.Numbered.{replaced}
use Rattle.net_places.specs.Places.{net, holding, nets_of, place_at}
use Rattle.net_places.specs.Nets.{held_as}
use Rattle.net_places.proofs.NetsLaws.{net-of, remove_of}
use Rattle.session_pile.specs.Pile.{pile_of, top_of, lifted}
use Rattle.session_pile.specs.Changes.{laid_pile, pile_top, pile_empty, length_pile}
use Rattle.session.specs.declared.Session.{Session}
use Rattle.session_answers.specs.Answers.{add_answer}
use Rattle.session_answers.specs.Answers.{withdraw_answer, take_back_answer}
use Rattle.session.specs.View.{session_of, Sized}
use Rattle.session.specs.Value.{changed, add_sound, withdraw_held, withdraw_sound, take_back_sound}
use Rattle.session_add.specs.Check.{answered, check_answer, check_accepts}
use Rattle.session_sound.specs.Reverse.{insert_accepted, reversed_of}
use Rattle.net.specs.View.{Held}

depth_short : (s : Session) → Sound (session_of s) → s.pile.depth ≤ 64
depth_short s h = omega (arith, length_pile s.pile, h.short)

-- ── add ──
add_answered : (r : Option Refusal) (n : Net) (m : machine.Session) → answered r ≡ (add_step r n m).answer
add_answered none n m = refl
add_answered (some r) n m = refl

pub add-answer : (s : Session) (n : Net) → add_answer (add_sound s n).answer ≡ (step (session_of s) (add n)).answer
unfolding step add_sound
add-answer s n =
    check_answer (block_of s.block) (nets_of s.nets) n ∙ add_answered (add_refused (block_of s.block) (nets_of s.nets) n) n (session_of s)

add_done : (s : Session) (n : Net) (r : Option Refusal) → Sized s → Sound (session_of s) → add_refused (block_of s.block) (nets_of s.nets) n ≡ r
    → session_of (cond (is_none r) (changed s (replaced s.nets n.number (holding n.ends)) (Added n)) s) ≡ (add_step r n (session_of s)).next
unfolding added accepts
add_done s n none z h e =
    let a : accepts (block_of s.block) (nets_of s.nets) n ≡ true = rw e refl in
    rw (insert_accepted (block_of s.block) s.nets n z.nets64 a, laid_pile s.pile (Added n) z.pile64 (depth_short s h)) refl
add_done s n (some r) z h e = refl

pub add_next : (s : Session) (n : Net) → Sized s → Sound (session_of s) → session_of (add_sound s n).session ≡ (step (session_of s) (add n)).next
unfolding step add_sound accepts
add_next s n z h =
    rw (check_accepts (block_of s.block) (nets_of s.nets) n) (add_done s n (add_refused (block_of s.block) (nets_of s.nets) n) z h refl)

-- ── withdraw ──
withdraw_held_answer : (s : Session) (k : ℕ) (x : Held)
    → withdraw_answer (withdraw_held s k x).answer ≡ (withdraw_step (held_as k x) (session_of s)).answer
withdraw_held_answer s k None = refl
withdraw_held_answer s k (Some e) = refl

pub withdraw-answer : (s : Session) (k : ℕ) → withdraw_answer (withdraw_sound s k).answer ≡ (step (session_of s) (withdraw k)).answer
unfolding step withdraw_sound
withdraw-answer s k = rw (net-of s.nets k) (withdraw_held_answer s k (place_at s.nets k))

withdraw-held : (s : Session) (k : ℕ) (x : Held) → Sized s → Sound (session_of s)
    → session_of (withdraw_held s k x).session ≡ (withdraw_step (held_as k x) (session_of s)).next
unfolding withdrawn
withdraw-held s k None z h = refl
withdraw-held s k (Some e) z h = rw (remove_of s.nets k, laid_pile s.pile (Withdrawn (net k e)) z.pile64 (depth_short s h)) refl

pub withdraw_next : (s : Session) (k : ℕ) → Sized s → Sound (session_of s)
    → session_of (withdraw_sound s k).session ≡ (step (session_of s) (withdraw k)).next
unfolding step withdraw_sound
withdraw_next s k z h = rw (net-of s.nets k) (withdraw-held s k (place_at s.nets k) z h)

-- ── take back ──
pub take-back-answer : (s : Session) → take_back_answer (take_back_sound s).answer ≡ (step (session_of s) take_back).answer
unfolding step take_back_sound
take-back-answer s = elim (bool (eqb s.pile.depth 0)) [
  | inl e ↦ rw (e, pile_empty s.pile (eqb-true s.pile.depth 0 e)) refl
  | inr e ↦ let d : s.pile.depth ≡ 0 → ⊥ = eqb-false s.pile.depth 0 e in rw (e, pile_top s.pile (omega arith)) refl
]

top_lifts : (s : Session) → Sound (session_of s) → 0 < s.pile.depth → liftable? (block_of s.block) (nets_of s.nets) (top_of s.pile) ≡ true
unfolding lifts?
top_lifts s h d =
    let b = block_of s.block in
    let ns = nets_of s.nets in
    let c = top_of s.pile in
    (and_true (liftable? b ns c) (lifts? b (reversed c ns) (pile_of (lifted s.pile))) (rw (pile_top s.pile d) at h.lifts)).0

pub take_back_next : (s : Session) → Sized s → Sound (session_of s) → session_of (take_back_sound s).session ≡ (step (session_of s) take_back).next
unfolding step take_back_sound taken_back
take_back_next s z h = elim (bool (eqb s.pile.depth 0)) [
  | inl e ↦ rw (e, pile_empty s.pile (eqb-true s.pile.depth 0 e)) refl
  | inr e ↦
      let ne : s.pile.depth ≡ 0 → ⊥ = eqb-false s.pile.depth 0 e in
      let d : 0 < s.pile.depth = omega arith in
      rw (e, pile_top s.pile d, reversed_of (block_of s.block) s.nets (top_of s.pile) z.nets64 (top_lifts s h d)) refl
]
