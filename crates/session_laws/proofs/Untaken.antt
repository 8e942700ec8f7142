-- Taken pins limit which nets can stand on a board and no more: a sound session is sound with no pin taken (`sound_untaken`), and what a routing
-- call may answer is the same (`untaken_answered` of crate session_history). More is shown: nets that stand where there are fewer pins stand where
-- there are more.
-- Assumes nothing.
use Rattle.std.specs.Prelude.{◌≡◌, true, ◌≤◌}
use Rattle.std.proofs.Math.Path.{refl}
use mathlib.Core.List.{List, [], ◌∷◌}
use Rattle.std.proofs.Common.{arith}
use Rattle.count.specs.TruthLaws.{and_true, and_yes}
use Rattle.board.specs.declared.Vertex.{Vertex}
use Rattle.board_block.specs.Block.{Block, under, taken_at, pins_of}
use Rattle.board_block.specs.Taken.{in_order?, all_there?}
use Rattle.net.specs.declared.Net.{Net}
use Rattle.net.specs.declared.Change.{Change}
use Rattle.net.specs.declared.Change.TheVariants.{Added, Withdrawn}
use Rattle.session_rules.specs.Session.{Session, untaken}
use Rattle.session_rules.specs.Add.{accepts}
use Rattle.session_rules.specs.Machine.{reversed}
use Rattle.session_rules.specs.Sound.{rising?, addable?, liftable?, lifts?, Sound}
use Rattle.session_laws.proofs.Accept.{free_of, free_accepted}
use Rattle.session_laws.proofs.Rising.{rising_from}
use Rattle.session_laws.proofs.FineLaws.{good_on}
use Rattle.session_laws.proofs.Addable.{fine_of, fine_addable}

-- two blocks on one board, of which the second has as many pins or more at every vertex
module _ (b c : Block) (same : c.board ≡ b.board) (more : (v : Vertex) → pins_of b v ≤ pins_of c v) where
  accepts-more : (ns : List Net) (n : Net) → accepts b ns n ≡ true → accepts c ns n ≡ true
  accepts-more ns n e =
      let f = free_of b ns n e in
      free_accepted c ns n (record {
        low = f.low;
        high = f.high;
        new = f.new;
        first = rw same f.first;
        second = rw same f.second;
        apart = f.apart;
        room_first = omega (arith, f.room_first, more n.ends.first);
        room_second = omega (arith, f.room_second, more n.ends.second);
      })

  pub addable-more : (ns : List Net) → rising? ns ≡ true → addable? b [] ns ≡ true → addable? c [] ns ≡ true
  addable-more ns r e =
      let f = fine_of b ns (rising_from ns r) e in
      fine_addable c ns (record { rising = f.rising; good = good_on b c same ns f.good; room = λ v. omega (arith, f.room v, more v) })

  liftable-more : (ns : List Net) (x : Change) → liftable? b ns x ≡ true → liftable? c ns x ≡ true
  unfolding liftable?
  liftable-more ns (Added n) e = e
  liftable-more ns (Withdrawn n) e = accepts-more ns n e

  pub lifts-more : (ns : List Net) (cs : List Change) → lifts? b ns cs ≡ true → lifts? c ns cs ≡ true
  unfolding lifts?
  lifts-more ns [] e = refl
  lifts-more ns (x ∷ cs) e =
      let t = and_true (liftable? b ns x) (lifts? b (reversed x ns) cs) e in
      and_yes (liftable? c ns x) (lifts? c (reversed x ns) cs) (liftable-more ns x t.0) (lifts-more (reversed x ns) cs t.1)

-- ── with no pin taken ──
pub pins_untaken : (b : Block) (v : Vertex) → pins_of b v ≤ pins_of (under b.book b.board) v
unfolding pins_of taken_at
pins_untaken b v = omega arith

pub sound_untaken : (s : Session) → Sound s → Sound (untaken s)
unfolding in_order? all_there?
sound_untaken s h =
    let b = s.block in let c = under s.block.book s.block.board in let more = pins_untaken s.block in
    record {
      within = h.within;
      convex = h.convex;
      taken = refl;
      rising = h.rising;
      addable = addable-more b c refl more s.nets h.rising h.addable;
      short = h.short;
      lifts = lifts-more b c refl more s.nets s.pile h.lifts;
      eight = h.eight;
      kept_rising = h.kept_rising;
      kept_addable = λ k ns e. addable-more b c refl more ns (h.kept_rising k ns e) (h.kept_addable k ns e);
    }
