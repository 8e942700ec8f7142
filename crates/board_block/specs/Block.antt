-- Definitions only: a block, which is a board with what belongs to it besides its cells, its rule book (document 02, §9) and the pins that the
-- package has taken (§8), and the pins that its nets may use. Nothing is proved here. What comes to belong to a board is a field of Block; what nets
-- may use of it is told by `pins_of` alone.
use Rattle.std.specs.Prelude.{cond, List, [], ◌∷◌, ℕ, ◌+◌, ◌-◌}
use Rattle.board.specs.Board.{Board}
use Rattle.board.specs.declared.Vertex.{Vertex}
use Rattle.net.specs.Terminals.{same}
use Rattle.board_block.specs.Book.{pins_by}
use Rattle.board_block.specs.declared.Book.{Book}
use Rattle.board_block.specs.declared.Book.TheVariants.{Old}
use Rattle.board_block.specs.declared.TakenPins.{TakenPins}

-- "the board's rule", by its book; "Taken pins belong to the board": of each vertex that has some, how many
pub record Block : Type 0 where
  pub board : Board
  pub book : Book
  pub taken : List TakenPins

-- a board under a book, of which no pin is taken
abbrev pub under : Book → Board → Block
under k b = record { board = b; book = k; taken = [] }

-- a board by itself: "Old blocks and the blank session stay under the first book."
abbrev pub plain : Board → Block
plain b = under Old b

-- how many pins of v are taken
unfoldable pub taken_at : List TakenPins → Vertex → ℕ
taken_at [] v = 0
taken_at (t ∷ ts) v = cond (same t.vertex v) t.count 0 + taken_at ts v

-- "A vertex's pins are now 4 minus its degree", under the new rule one where that is 2, "minus those taken", and none where more are taken
unfoldable pub pins_of : Block → Vertex → ℕ
pins_of b v = pins_by b.book b.board v - taken_at b.taken v
