-- Definitions only: document 01, "Board words", first table, and document 02, §8, the word of kind 3, and §9, the end word's book. Nothing is proved
-- here.
use Rattle.std.specs.Prelude.{cond, ℕ, ◌+◌, eqb}
use Rattle.board.specs.Board.{at}
use Rattle.board.specs.declared.Row.{Row}
use Rattle.board_block.specs.Book.{book_number, book_of}
use Rattle.board_block.specs.Taken.{one_or_two}
use Rattle.board_block.specs.declared.Book.{Book}
use Rattle.board_block.specs.declared.TakenPins.{TakenPins}
use Rattle.net.specs.declared.Net.{Net}
use Rattle.words.specs.Bits.{bits, put, kind}
use Rattle.words.specs.declared.BoardEnd.{BoardEnd}
use Rattle.words.specs.declared.BoardWord.{BoardWord}
use Rattle.words.specs.declared.BoardWord.TheVariants as word

-- | row | 31-28 = 1, 9-5 left, 4-0 right |
abbrev pub row_word : Row → ℕ
row_word r = put 28 1 + put 5 r.left + r.right

-- 02, §8: "A board word of kind 3 ..: bits 11-10 how many pins are taken (1 or 2), 9-5 line, 4-0 column, the rest zero"
abbrev pub taken_word : TakenPins → ℕ
taken_word t = put 28 3 + put 10 t.count + put 5 t.vertex.line + t.vertex.column

-- | net | 31-28 = 2, 27-20 number, then line, column, line, column of the terminals, 5 bits each |
abbrev pub net_word : Net → ℕ
net_word n =
    put 28 2 + put 20 n.number
    + put 15 n.ends.first.line + put 10 n.ends.first.column
    + put 5 n.ends.second.line + n.ends.second.column

-- | end | 31-28 = 15, 15-8 rows, 7-0 nets |
-- 02, §9: "Bits 27-24 of the board's end word say which: 0 the old rule, 1 the new"
abbrev pub end_word : Book → (rows nets : ℕ) → ℕ
end_word k rows nets = put 28 15 + put 24 (book_number k) + put 8 rows + nets

-- the fields of a word, by its kind
abbrev pub row_in : ℕ → Row
row_in w = record { left = bits 5 5 w; right = bits 0 5 w }

abbrev pub taken_in : ℕ → TakenPins
taken_in w = record { vertex = at (bits 5 5 w) (bits 0 5 w); count = bits 10 2 w }

abbrev pub net_in : ℕ → Net
net_in w = record {
  number = bits 20 8 w;
  ends = record { first = at (bits 15 5 w) (bits 10 5 w); second = at (bits 5 5 w) (bits 0 5 w) };
}

abbrev pub end_in : ℕ → BoardEnd
end_in w = record { book = book_of (bits 24 4 w); rows = bits 8 8 w; nets = bits 0 8 w }

-- "Bits not named are zero": a word has no bits but those of its kind and fields
abbrev pub only_if : (w packed : ℕ) → BoardWord → BoardWord
only_if w packed x = cond (eqb packed w) x word.Unknown

unfoldable pub as_row : ℕ → BoardWord
as_row w = only_if w (row_word (row_in w)) (word.Row (row_in w))

-- "12 covers a count of 0 or 3"
unfoldable pub as_taken : ℕ → BoardWord
as_taken w = cond (one_or_two (taken_in w).count) (only_if w (taken_word (taken_in w)) (word.Taken (taken_in w))) word.Unknown

unfoldable pub as_net : ℕ → BoardWord
as_net w = only_if w (net_word (net_in w)) (word.Net (net_in w))

-- "Other values get 12": no book is packed as 2 to 15
unfoldable pub as_end : ℕ → BoardWord
as_end w = only_if w (end_word (end_in w).book (end_in w).rows (end_in w).nets) (word.End (end_in w))

-- what a word of a board says, by its kind
unfoldable pub board_word : ℕ → BoardWord
board_word w =
    cond (eqb (kind w) 1) (as_row w)
    (cond (eqb (kind w) 2) (as_net w)
    (cond (eqb (kind w) 3) (as_taken w)
    (cond (eqb (kind w) 15) (as_end w) word.Unknown)))
