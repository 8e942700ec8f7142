-- Nets in rising number could all be added to the bare board exactly when they keep within it.
-- Assumes nothing.
use Rattle.std.specs.Prelude.{◌≡◌, refl, true, false, List, [], ◌∷◌, ℕ, suc, ◌+◌, ◌≤◌}
use Rattle.std.proofs.Common.{arith, ne_eqb}
use Rattle.count.specs.TruthLaws.{and_true, and_yes}
use Rattle.board.specs.declared.Vertex.{Vertex}
use Rattle.board_block.specs.Block.{Block, pins_of}
use Rattle.net.specs.Terminals.{terminals}
use Rattle.net.specs.declared.Net.{Net}
use Rattle.session_rules.specs.Session.{pairs, holds, insert}
use Rattle.session_rules.specs.Add.{accepts}
use Rattle.session_rules.specs.Sound.{addable?}
use Rattle.session_laws.proofs.Accept.{Free, free_of, free_accepted}
use Rattle.session_laws.proofs.Insert.{holds_insert, terminals_insert}
use Rattle.session_laws.specs.Rising.{From}
use Rattle.session_laws.specs.Fine.{AllGood, Room, Fine}
use Rattle.session_laws.proofs.FineLaws.{good_of, room_insert, first_there, second_there}

-- DEFINITION: with the nets that are on already, no vertex has more terminals than pins
abbrev RoomWith : Block → List Net → List Net → Type 0
RoomWith b on ns = (v : Vertex) → terminals (pairs on) v + terminals (pairs ns) v ≤ pins_of b v

addable_within : (b : Block) (on ns : List Net) → Room b on → addable? b on ns ≡ true → AllGood b ns × RoomWith b on ns
unfolding addable? terminals
addable_within b on [] r e = (tt, λ v. omega (arith, r v))
addable_within b on (n ∷ ns) r e =
    let t = and_true (accepts b on n) (addable? b (insert n on) ns) e in
    let f = free_of b on n t.0 in
    let k = addable_within b (insert n on) ns (room_insert b on n r f) t.1 in
    ((good_of b on n f, k.0), λ v. omega (arith, k.1 v, terminals_insert n on v))

free_next : (b : Block) (on : List Net) (n : Net) (ns : List Net) → AllGood b (n ∷ ns) → holds n.number on ≡ false → RoomWith b on (n ∷ ns)
    → Free b on n
unfolding terminals
free_next b on n ns g h r = record {
  low = g.0.low;
  high = g.0.high;
  new = h;
  first = g.0.first;
  second = g.0.second;
  apart = g.0.apart;
  room_first = omega (arith, r n.ends.first, first_there n);
  room_second = omega (arith, r n.ends.second, second_there n);
}

within_addable : (b : Block) (on ns : List Net) (k : ℕ) → ((j : ℕ) → k ≤ j → holds j on ≡ false) → From k ns → AllGood b ns → RoomWith b on ns
    → addable? b on ns ≡ true
unfolding addable? terminals
within_addable b on [] k h f g r = refl
within_addable b on (n ∷ ns) k h f g r =
    and_yes (accepts b on n) (addable? b (insert n on) ns) (free_accepted b on n (free_next b on n ns g (h n.number f.0) r))
    (within_addable b (insert n on) ns (suc n.number)
    (λ j l. rw (holds_insert j n on, ne_eqb n.number j (λ e. omega arith)) (let m = f.0 in h j (omega arith)))
    f.1 g.1 (λ v. omega (arith, r v, terminals_insert n on v)))

pub fine_of : (b : Block) (ns : List Net) → From 0 ns → addable? b [] ns ≡ true → Fine b ns
unfolding terminals
fine_of b ns f e =
    let k = addable_within b [] ns (λ v. omega arith) e in
    record { rising = f; good = k.0; room = λ v. omega (arith, k.1 v) }

pub fine_addable : (b : Block) (ns : List Net) → Fine b ns → addable? b [] ns ≡ true
unfolding terminals holds
fine_addable b ns f = within_addable b [] ns 0 (λ j h. refl) f.rising f.good (λ v. omega (arith, f.room v))
