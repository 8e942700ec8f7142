-- The pins of a block are never more than the board's own, 4 minus the degree at a vertex, whatever its book (`pins_below`). What is shown of cuts
-- and routings knows no more of them.
-- Assumes nothing.
use Rattle.std.specs.Prelude.{◌≡◌, refl, ◌≤◌, eqb}
use Rattle.std.proofs.Common.{inl, inr, arith, eqb-true, eq-eqb, ne_eqb}
use Rattle.std.proofs.lemmas.Bool.{eqb-false}
use Rattle.count.specs.TruthLaws.{bool, one_le}
use Rattle.board.specs.Board.{Board}
use Rattle.board.specs.Degree.{vertex?, degree, pins}
use Rattle.board.specs.declared.Vertex.{Vertex}
use Rattle.board_pins.proofs.AtVertex.{pins_degree}
use Rattle.board_block.specs.Book.{pins_by}
use Rattle.board_block.specs.Block.{Block, pins_of}
use Rattle.board_block.specs.declared.Book.{Book}
use Rattle.board_block.specs.declared.Book.TheVariants.{Old, New}

-- a vertex of degree 2 is one with two pins by the old rule
pub two_pins : (b : Board) (v : Vertex) → eqb (degree b v) 2 ≡ eqb (pins b v) 2
two_pins b v = elim (bool (eqb (degree b v) 2)) [
  | inl e ↦
      let d = eqb-true (degree b v) 2 e in
      rw (e, eq-eqb (pins b v) 2 (omega (arith, pins_degree b v, one_le (vertex? b v)))) refl
  | inr e ↦
      let d = eqb-false (degree b v) 2 e in
      rw (e, ne_eqb (pins b v) 2 (λ p. d (omega (arith, pins_degree b v, one_le (vertex? b v))))) refl
]

pub book_below : (k : Book) (b : Board) (v : Vertex) → pins_by k b v ≤ pins b v
unfolding pins_by
book_below Old b v = omega arith
book_below New b v = elim (bool (eqb (degree b v) 2)) [
  | inl e ↦ let d = eqb-true (degree b v) 2 e in rw e (omega (arith, pins_degree b v))
  | inr e ↦ rw e (omega arith)
]

pub pins_below : (b : Block) (v : Vertex) → pins_of b v ≤ pins b.board v
unfolding pins_of
pins_below b v = omega (arith, book_below b.book b.board v)
