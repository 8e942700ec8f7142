-- The parts of the test of soundness, as the code asks them, make up the test of the definition.
-- Assumes nothing.
use Rattle.std.specs.Prelude.{◌≡◌, refl, Bool, ◌&&◌, [], leb, length}
use Rattle.std.proofs.Common.{◌∙◌, inl, inr, eq-eqb}
use Rattle.count.specs.TruthLaws.{bool}
use Rattle.board.specs.Board.{Within}
use Rattle.board_block.specs.Taken.{taken_fine?}
use Rattle.board_block.specs.View.{block_of}
use Rattle.board_convex.specs.Test.{is_convex}
use Rattle.board_convex.proofs.Exact.{is-convex}
use Rattle.session_rules.specs.Session.{name_count}
use Rattle.session_rules.specs.Sound.{addable?, lifts?, all_fine?, sound?}
use Rattle.net_places.specs.Places.{nets_of}
use Rattle.net_places.proofs.NetsLaws.{rising_of}
use Rattle.session_pile.specs.Pile.{pile_of}
use Rattle.session_pile.specs.Changes.{length_pile}
use Rattle.session_names.specs.Names.{kept_of}
use Rattle.session.specs.declared.Session.{Session}
use Rattle.session.specs.View.{session_of}

-- what is asked of nets and names is told on a board within the limits, which a convex one is
pub tested : (s : Session) (convex taken addable short lifts fine : Bool) → convex ≡ is_convex (block_of s.block).board
    → taken ≡ taken_fine? (block_of s.block)
    → (Within (block_of s.block).board → addable ≡ addable? (block_of s.block) [] (nets_of s.nets))
    → short ≡ leb s.pile.depth 64
    → lifts ≡ lifts? (block_of s.block) (nets_of s.nets) (pile_of s.pile)
    → (Within (block_of s.block).board → fine ≡ all_fine? (block_of s.block) (kept_of s.names))
    → length (kept_of s.names) ≡ name_count
    → (convex && taken) && (addable && ((short && lifts) && fine)) ≡ sound? (session_of s)
unfolding sound?
tested s convex taken addable short lifts fine c t a p l f n = elim (bool (is_convex (block_of s.block).board)) [
  | inl e ↦
      let within = ((is-convex (block_of s.block).board).0 e).0 in
      rw (c ∙ e, e, t, a within, p, l, f within, rising_of s.nets, length_pile s.pile, eq-eqb (length (kept_of s.names)) name_count n) refl
  | inr e ↦ rw (c ∙ e, e) refl
]
