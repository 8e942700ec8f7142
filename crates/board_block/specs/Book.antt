-- Definitions only: the foundry's rule books, and the pins of a vertex before any are taken (document 02, §9). Nothing is proved here: Pins has the
-- laws. What is shown of cuts and routings knows of a book by one of them alone, that its pins are never above 4 minus the degree.
use Rattle.std.specs.Prelude.{cond, ℕ, eqb}
use Rattle.board.specs.Board.{Board}
use Rattle.board.specs.Degree.{degree, pins}
use Rattle.board.specs.declared.Vertex.{Vertex}
use Rattle.board_block.specs.declared.Book.{Book}
use Rattle.board_block.specs.declared.Book.TheVariants.{Old, New}

-- "0 the old rule, 1 the new"
abbrev pub book_number : Book → ℕ
book_number Old = 0
book_number New = 1

-- the book of a number: only 0 and 1 are the number of one
abbrev pub book_of : ℕ → Book
book_of n = cond (eqb n 0) Old New

-- under the old rule a vertex of degree d has 4 - d pins; "the new, where a vertex of degree 2 has one pin before any are taken"
unfoldable pub pins_by : Book → Board → Vertex → ℕ
pins_by Old b v = pins b v
pins_by New b v = cond (eqb (degree b v) 2) 1 (pins b v)
