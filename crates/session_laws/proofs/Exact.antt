-- The test of soundness is exact; a call on a sound session is the machine's step (`call_step`), and on another it gets 20 (`unsound_call`).
-- Assumes nothing.
use Rattle.std.specs.Prelude.{◌≡◌, refl, true, ◌&&◌, List, [], ◌∷◌, ◌↔◌, ℕ, zero, suc, eqb, leb, length, get_or}
use Rattle.std.proofs.Math.Option.{none, some}
use Rattle.std.proofs.Common.{arith, leb-true, le-leb, eqb-true, eq-eqb}
use Rattle.count.specs.TruthLaws.{not_true, and_true, and_yes}
use Rattle.board_block.specs.Block.{Block}
use Rattle.board_block.specs.Taken.{taken_fine?}
use Rattle.board_convex.specs.Test.{is_convex}
use Rattle.board_convex.proofs.Exact.{is-convex}
use Rattle.net.specs.declared.Net.{Net}
use Rattle.session_rules.specs.Refusal.{refusal}
use Rattle.session_rules.specs.Session.{name_count, Kept, Session}
use Rattle.session_rules.specs.Machine.{Call, step, pile_limit}
use Rattle.session_rules.specs.Sound.{rising?, addable?, lifts?, fine?, kept_fine?, all_fine?, Sound, sound?, refused_whole, call}

-- ── what is kept under the names ──
-- DEFINITION: where x holds nets, they stand in rising number and could all be added to the bare board
abbrev KeptFine : Block → Kept → Type 0
KeptFine b x = (ns : List Net) → x ≡ some ns → (rising? ns ≡ true) × (addable? b [] ns ≡ true)

kept_fine : (b : Block) (x : Kept) → kept_fine? b x ≡ true → KeptFine b x
kept_fine b none e ns f = absurd (let z : ◌≡◌ {A = ℕ} 0 1 = cc in omega arith)
kept_fine b (some ms) e ns f = let g : ms ≡ ns = cc in rw g at (and_true (rising? ms) (addable? b [] ms) e)

fine_kept : (b : Block) (x : Kept) → KeptFine b x → kept_fine? b x ≡ true
fine_kept b none f = refl
fine_kept b (some ns) f = let g = f ns refl in and_yes (rising? ns) (addable? b [] ns) g.0 g.1

all-fine : (b : Block) (ks : List Kept) → all_fine? b ks ≡ true → (k : ℕ) → KeptFine b (get_or ks k none)
unfolding all_fine?
all-fine b [] e k = λ ns f. absurd (let z : ◌≡◌ {A = ℕ} 0 1 = cc in omega arith)
all-fine b (x ∷ ks) e zero = kept_fine b x (and_true (kept_fine? b x) (all_fine? b ks) e).0
all-fine b (x ∷ ks) e (suc k) = all-fine b ks (and_true (kept_fine? b x) (all_fine? b ks) e).1 k

fine_all : (b : Block) (ks : List Kept) → ((k : ℕ) → KeptFine b (get_or ks k none)) → all_fine? b ks ≡ true
unfolding all_fine?
fine_all b [] f = refl
fine_all b (x ∷ ks) f = and_yes (kept_fine? b x) (all_fine? b ks) (fine_kept b x (f 0)) (fine_all b ks (λ k. f (suc k)))

-- ── the whole test ──
pub sound_exact : (s : Session) → (sound? s ≡ true) ↔ Sound s
unfolding sound?
sound_exact s = (
  λ e.
      let nets = fine? s.block s.nets in
      let pile = leb (length s.pile) pile_limit && lifts? s.block s.nets s.pile in
      let names = eqb (length s.names) name_count && all_fine? s.block s.names in
      let t = and_true (is_convex s.block.board && taken_fine? s.block) (nets && (pile && names)) e in
      let b = and_true (is_convex s.block.board) (taken_fine? s.block) t.0 in
      let u = and_true nets (pile && names) t.1 in
      let v = and_true (rising? s.nets) (addable? s.block [] s.nets) u.0 in
      let w = and_true pile names u.1 in
      let x = and_true (leb (length s.pile) pile_limit) (lifts? s.block s.nets s.pile) w.0 in
      let y = and_true (eqb (length s.names) name_count) (all_fine? s.block s.names) w.1 in
      let k = (is-convex s.block.board).0 b.0 in
      record {
        within = k.0;
        convex = k.1;
        taken = b.1;
        rising = v.0;
        addable = v.1;
        short = leb-true (length s.pile) pile_limit x.0;
        lifts = x.1;
        eight = eqb-true (length s.names) name_count y.0;
        kept_rising = λ k ns f. (all-fine s.block s.names y.1 k ns f).0;
        kept_addable = λ k ns f. (all-fine s.block s.names y.1 k ns f).1;
      },
  λ h. rw (
    (is-convex s.block.board).1 (h.within, h.convex),
    h.taken,
    h.rising,
    h.addable,
    le-leb (length s.pile) pile_limit h.short,
    h.lifts,
    eq-eqb (length s.names) name_count h.eight,
    fine_all s.block s.names (λ k ns f. (h.kept_rising k ns f, h.kept_addable k ns f)),
  ) refl,
)

pub call_step : (s : Session) (c : Call) → Sound s → call s c ≡ step s c
unfolding call
call_step s c h = rw ((sound_exact s).1 h) refl

pub unsound_call : (s : Session) (c : Call) → (Sound s → ⊥) → call s c ≡ record { answer = refused_whole c (refusal 20 0); next = s }
unfolding call
unsound_call s c n = rw (not_true (sound? s) (λ e. n ((sound_exact s).0 e))) refl
