-- Definitions only: which pins of a board may be taken (document 02, §8), by its book (§9). Nothing is proved here.
use Rattle.std.specs.Prelude.{Bool, true, not, ◌&&◌, ◌||◌, List, [], ◌∷◌, ℕ, eqb, leb, ltb}
use Rattle.board.specs.Board.{Board}
use Rattle.board.specs.Degree.{vertex?}
use Rattle.board.specs.declared.Vertex.{Vertex}
use Rattle.board_block.specs.Book.{pins_by}
use Rattle.board_block.specs.Block.{Block}
use Rattle.board_block.specs.declared.Book.{Book}
use Rattle.board_block.specs.declared.TakenPins.{TakenPins}

-- u comes before v in reading order, "line by line and column by column"
abbrev pub comes_before : (u v : Vertex) → Bool
comes_before u v = ltb u.line v.line || (eqb u.line v.line && ltb u.column v.column)

-- "They come in reading order, no vertex twice."
unfoldable pub in_order? : List TakenPins → Bool
in_order? [] = true
in_order? (t ∷ []) = true
in_order? (t ∷ (u ∷ us)) = comes_before t.vertex u.vertex && in_order? (u ∷ us)

-- "how many pins are taken (1 or 2)"
abbrev pub one_or_two : ℕ → Bool
one_or_two k = leb 1 k && leb k 2

-- refusal 38: "the vertex is missing or has fewer pins, before any are taken, than the word takes"; "taken pins .. follow the board's rule" (§9)
abbrev pub over_taken : Book → Board → TakenPins → Bool
over_taken k b t = not (vertex? b t.vertex) || ltb (pins_by k b t.vertex) t.count

-- of each vertex that is listed one or two pins are taken, and none would get 38
unfoldable pub all_there? : Book → Board → List TakenPins → Bool
all_there? k b [] = true
all_there? k b (t ∷ ts) = (one_or_two t.count && not (over_taken k b t)) && all_there? k b ts

-- the taken pins of a block are such that they can be written and read again
abbrev pub taken_fine? : Block → Bool
taken_fine? b = in_order? b.taken && all_there? b.book b.board b.taken
