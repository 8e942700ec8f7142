-- Definitions only: the block that a value of the code's struct stands for. Nothing is proved here: ViewLaws has the laws.
-- The array has a place for each vertex of 32 lines and 32 columns, in reading order: how many of its pins are taken.
use Rattle.std.specs.Prelude.{Bool, true, cond, not, ◌&&◌, List, [], ◌∷◌, ℕ, zero, suc, ◌+◌, ◌*◌, ◌/◌, ◌%◌, eqb, leb, ltb, get_or, replicate}
use Rattle.board.specs.Board.{Board, at}
use Rattle.board.specs.View.{board_of}
use Rattle.board.specs.declared.Board as code-board
use Rattle.board.specs.declared.Vertex.{Vertex}
use Rattle.net.specs.Grid.{changed_at}
use Rattle.board_block.specs.Block.{Block}
use Rattle.board_block.specs.Taken.{over_taken}
use Rattle.board_block.specs.declared.Block as code
use Rattle.board_block.specs.declared.Book.{Book}
use Rattle.board_block.specs.declared.Book.TheVariants.{Old}
use Rattle.board_block.specs.declared.TakenPins.{TakenPins}

-- the place of a vertex, and the vertex of a place
abbrev pub place_of : Vertex → ℕ
place_of v = v.line * 32 + v.column

abbrev pub vertex_at : ℕ → Vertex
vertex_at i = at (i / 32) (i % 32)

-- so many pins of v, before the others; where there are none v is not listed
abbrev pub taken_then : Vertex → ℕ → List TakenPins → List TakenPins
taken_then v zero ts = ts
taken_then v (suc k) ts = record { vertex = v; count = suc k } ∷ ts

-- the pins that are taken at place i and at those after it
unfoldable pub taken_from : (i : ℕ) → List ℕ → List TakenPins
taken_from i [] = []
taken_from i (k ∷ ks) = taken_then (vertex_at i) k (taken_from (suc i) ks)

abbrev pub taken_of : List ℕ → List TakenPins
taken_of a = taken_from 0 a

-- a book, a board and an array together
abbrev pub block_by : Book → Board → List ℕ → Block
block_by k b a = record { board = b; book = k; taken = taken_of a }

abbrev pub block_of : code.Block → Block
block_of b = block_by b.book (board_of b.board) b.taken

-- what the array has of v; outside lines and columns 0 to 31 it has nothing
abbrev pub entry_of : List ℕ → Vertex → ℕ
entry_of a v = cond (ltb v.line 32) (cond (ltb v.column 32) (get_or a (place_of v) 0) 0) 0

-- so many pins of v are there to be taken; where none are, nothing is asked
abbrev pub there_at : Book → Board → Vertex → ℕ → Bool
there_at k b v n = cond (eqb n 0) true (leb n 2 && not (over_taken k b (record { vertex = v; count = n })))

-- ── values ──
-- the array of a board of which no pin is taken
abbrev pub none_taken : List ℕ
none_taken = replicate 1024 0

-- the array with these taken pins, in place of what it had of their vertex
abbrev pub with_taken : List ℕ → TakenPins → List ℕ
with_taken a t = changed_at (λ k. t.count) t.vertex.line t.vertex.column a

unfoldable pub with_all : List ℕ → List TakenPins → List ℕ
with_all a [] = a
with_all a (t ∷ ts) = with_all (with_taken a t) ts

-- the block with these taken pins, in place of what was taken of their vertex
abbrev pub with_pins : code.Block → TakenPins → code.Block
with_pins b t = record { board = b.board; book = b.book; taken = with_taken b.taken t }

-- the block under another book
abbrev pub with_book : code.Block → Book → code.Block
with_book b k = record { board = b.board; book = k; taken = b.taken }

-- the value for a board by itself
abbrev pub plain_of : code-board.Board → code.Block
plain_of b = record { board = b; book = Old; taken = none_taken }
