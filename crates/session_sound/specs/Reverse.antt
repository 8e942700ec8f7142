-- A change that can be lifted is reversed in the places as the machine reverses it; and how a loop lifts the pile.
-- Assumes nothing.
use Rattle.std.specs.Prelude.{◌≡◌, refl, true, false, List, ◌<◌, length}
use Rattle.std.proofs.Common.{arith}
use Rattle.board_block.specs.Block.{Block}
use Rattle.net.specs.declared.Net.{Net}
use Rattle.net.specs.declared.Change.{Change}
use Rattle.net.specs.declared.Change.TheVariants.{Added, Withdrawn}
use Rattle.session_rules.specs.Session.{insert}
use Rattle.session_rules.specs.Add.{accepts}
use Rattle.session_rules.specs.Machine.{reversed}
use Rattle.session_rules.specs.Sound.{liftable?, lifts?}
use Rattle.session_laws.proofs.Accept.{free_of}
use Rattle.net_places.specs.Numbered.{replaced}
use Rattle.net_places.proofs.NumberedLaws.{length-replaced}
use Rattle.net_places.specs.Places.{holding, nets_of, reversed_in}
use Rattle.net_places.proofs.NetsLaws.{insert_of, remove_of}
use Rattle.session_pile.specs.Pile.{pile_of, top_of, lifted}
use Rattle.session_pile.specs.Changes.{pile_top, pile_empty}
use Rattle.session_pile.specs.declared.Pile.{Pile}
use Rattle.net.specs.View.{Held}

-- a net that add accepts goes to its place
pub insert_accepted : (b : Block) (ps : List Held) (n : Net) → length ps ≡ 64 → accepts b (nets_of ps) n ≡ true
    → nets_of (replaced ps n.number (holding n.ends)) ≡ insert n (nets_of ps)
insert_accepted b ps n l e = let f = free_of b (nets_of ps) n e in insert_of ps n f.low (omega (arith, f.high)) f.new

pub reversed_of : (b : Block) (ps : List Held) (c : Change) → length ps ≡ 64 → liftable? b (nets_of ps) c ≡ true
    → nets_of (reversed_in c ps) ≡ reversed c (nets_of ps)
unfolding reversed_in reversed liftable?
reversed_of b ps (Added n) l e = remove_of ps n.number
reversed_of b ps (Withdrawn n) l e = insert_accepted b ps n l e

pub length_reversed : (c : Change) (ps : List Held) → length (reversed_in c ps) ≡ length ps
unfolding reversed_in
length_reversed (Added n) ps = length-replaced ps n.number _
length_reversed (Withdrawn n) ps = length-replaced ps n.number _

-- ── one turn of the loop ──
pub lifts_turn : (b : Block) (ps qs : List Held) (p q : Pile) → length ps ≡ 64 → 0 < p.depth → liftable? b (nets_of ps) (top_of p) ≡ true
    → qs ≡ reversed_in (top_of p) ps → q ≡ lifted p → lifts? b (nets_of qs) (pile_of q) ≡ lifts? b (nets_of ps) (pile_of p)
unfolding lifts?
lifts_turn b ps qs p q l h can r f = rw (pile_top p h, can, r, f, reversed_of b ps (top_of p) l can) refl

pub lifts_stuck : (b : Block) (ps : List Held) (p : Pile) → 0 < p.depth → liftable? b (nets_of ps) (top_of p) ≡ false
    → lifts? b (nets_of ps) (pile_of p) ≡ false
unfolding lifts?
lifts_stuck b ps p h cannot = rw (pile_top p h, cannot) refl

pub lifts_done : (b : Block) (ps : List Held) (p : Pile) → p.depth ≡ 0 → lifts? b (nets_of ps) (pile_of p) ≡ true
unfolding lifts?
lifts_done b ps p e = rw (pile_empty p e) refl
