-- The search for the first vertex that keeps a session from moving, place by place. Where no place before i has more than the new rule gives it pins
-- (`NoneBefore`), what is found at i is the first (`found_at`), and at the end there is none (`found_none`).
-- Assumes nothing.
use Rattle.std.specs.Prelude.{◌≡◌, true, false, List, map, ℕ, zero, suc, ◌+◌, ◌*◌, ◌-◌, ◌/◌, ◌%◌, ◌≤◌, ◌<◌, get_or}
use Rattle.std.proofs.Math.Path.{ap}
use Rattle.std.proofs.Common.{sym, ◌∙◌, inl, inr, add-one, arith}
use Rattle.std.proofs.Math.Option.{Option, none, some}
use Rattle.count.specs.TruthLaws.{le_or_lt}
use Rattle.count.specs.Lists.{rising, first, first-yes, first-no, first_none, rising_more, rising_none}
use Rattle.board.specs.Board.{Board}
use Rattle.board.specs.Order.{reading_order}
use Rattle.board.specs.OrderLaws.{reading_by_index}
use Rattle.board.specs.declared.Vertex.{Vertex}
use Rattle.board_block.specs.Block.{taken_at}
use Rattle.board_block.specs.View.{vertex_at, taken_of, block_of}
use Rattle.board_block.proofs.ViewLaws.{taken_here}
use Rattle.board_block.specs.declared.Block as code
use Rattle.net.specs.Terminals.{terminals}
use Rattle.net.specs.View.{Held, pairs_of}
use Rattle.net_terminals.specs.Counts.{Counts}
use Rattle.session_rules.specs.Session.{pairs}
use Rattle.session_rules.specs.NewRule.{pins_used, over_new?}
use Rattle.net_places.specs.Places.{nets_of}
use Rattle.net_places.proofs.NetsLaws.{pairs-of}
use Rattle.session_move.specs.Value.{over_with}

-- DEFINITION: no place before i has more than the new rule gives it pins, by the counts of terminals and of taken pins
abbrev pub NoneBefore : Board → (counts taken : List ℕ) → ℕ → Type 0
NoneBefore b counts taken i = (j : ℕ) → j < i → over_with b (vertex_at j) (get_or counts j 0 + get_or taken j 0) ≡ false

pub none_next : (b : Board) (counts taken : List ℕ) (i : ℕ) → NoneBefore b counts taken i
    → over_with b (vertex_at i) (get_or counts i 0 + get_or taken i 0) ≡ false → NoneBefore b counts taken (i + 1)
none_next b counts taken i n e j h = elim (le_or_lt i j) [
  | inl l ↦ let q : j ≡ i = omega arith in rw q e
  | inr l ↦ n j l
]

module _ (b : code.Block) (nets : List Held) (counts : List ℕ) (C : Counts (pairs_of nets) counts) where
  -- terminals and taken pins of the vertex of a place, as the arrays have them
  used_at : (i : ℕ) → i < 1024 → pins_used (block_of b) (nets_of nets) (vertex_at i) ≡ get_or counts i 0 + get_or b.taken i 0
  used_at i h =
      let e : i / 32 * 32 + i % 32 ≡ i = omega arith in
      let t : get_or counts i 0 ≡ terminals (pairs (nets_of nets)) (vertex_at i)
      = rw (pairs-of nets) (rw e at (C.here (i / 32) (i % 32) (omega arith) (omega arith))) in
      let u : taken_at (taken_of b.taken) (vertex_at i) ≡ get_or b.taken i 0 = rw e at (taken_here b.taken (vertex_at i) (omega arith)) in
      omega arith

  asked : (i : ℕ) → i < 1024
      → over_new? (block_of b) (nets_of nets) (vertex_at i) ≡ over_with (block_of b).board (vertex_at i) (get_or counts i 0 + get_or b.taken i 0)
  unfolding over_new?
  asked i h = ap (λ (n : ℕ). over_with (block_of b).board (vertex_at i) n) (used_at i h)

  -- DEFINITION: the first of the vertices of place i and of those after it
  abbrev firstFrom : ℕ → Option Vertex
  firstFrom i = first (over_new? (block_of b) (nets_of nets)) (map vertex_at (rising i (1024 - i)))

  -- it is the first of all where none before i is one
  seen : (i : ℕ) → i ≤ 1024 → NoneBefore (block_of b).board counts b.taken i
      → firstFrom i ≡ first (over_new? (block_of b) (nets_of nets)) reading_order
  seen zero h n = ap (first (over_new? (block_of b) (nets_of nets))) (sym reading_by_index)
  seen (suc i) h n =
      let e = asked i (omega arith) ∙ n i (omega arith) in
      ap firstFrom (sym (add-one i))
      ∙ sym (first-no (over_new? (block_of b) (nets_of nets)) (ap (map vertex_at) (rising_more i 1024 (omega arith))) e)
      ∙ seen i (omega arith) (λ j l. n j (omega arith))

  pub found_at : (i : ℕ) → i < 1024 → NoneBefore (block_of b).board counts b.taken i
      → over_with (block_of b).board (vertex_at i) (get_or counts i 0 + get_or b.taken i 0) ≡ true
      → first (over_new? (block_of b) (nets_of nets)) reading_order ≡ some (vertex_at i)
  found_at i h n e =
      sym (seen i (omega arith) n)
      ∙ first-yes (over_new? (block_of b) (nets_of nets)) (ap (map vertex_at) (rising_more i 1024 h)) (asked i h ∙ e)

  pub found_none : NoneBefore (block_of b).board counts b.taken 1024 → first (over_new? (block_of b) (nets_of nets)) reading_order ≡ none
  found_none n =
      sym (seen 1024 (omega arith) n) ∙ first_none (over_new? (block_of b) (nets_of nets)) (ap (map vertex_at) (rising_none 1024))
