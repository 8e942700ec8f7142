-- Definitions only: what the code computes of one word of a board, at the level of its values. Nothing is proved here.
use Rattle.std.specs.Prelude.{Bool, true, false, not, cond, ◌&&◌, ◌||◌, ℕ, ◌+◌, leb, ltb, eqb, set, replicate, Option, None, Some, Result, Ok, Err}
use Rattle.board.specs.declared.Row.{Row}
use Rattle.board.specs.declared.Vertex.{Vertex}
use Rattle.board_block.specs.Taken.{comes_before}
use Rattle.board_block.specs.declared.Book.TheVariants.{Old}
use Rattle.board_block.specs.declared.TakenPins.{TakenPins}
use Rattle.net.specs.declared.Net.{Net}
use Rattle.words.specs.declared.BoardEnd.{BoardEnd}
use Rattle.words.specs.declared.BoardWord.{BoardWord}
use Rattle.words.specs.declared.BoardWord.TheVariants as word
use Rattle.board_scan.specs.declared.Scan.{Scan}
use Rattle.board_scan.specs.declared.WordFault.{WordFault}
use Rattle.board_scan.specs.declared.WordFault.TheVariants.{Unknown, Misplaced, BadRow, WrongCount}

-- there is one
abbrev pub there? : {A : Type 0} → Option A → Bool
there? None = false
there? (Some x) = true

-- the vertex of taken pins is not after the last one
abbrev pub pin_again : Option Vertex → Vertex → Bool
pin_again None v = false
pin_again (Some u) v = not (comes_before u v)

-- the net's number is not above the last one
abbrev pub net_again : Option ℕ → ℕ → Bool
net_again None k = false
net_again (Some l) k = leb k l

-- the scan, through 13, 14 and 15 in the order of the table
abbrev pub checked : (misplaced row count : Bool) → Scan → Result Scan WordFault
checked misplaced row count s = cond misplaced (Err Misplaced) (cond row (Err BadRow) (cond count (Err WrongCount) (Ok s)))

-- the scan with what a word says, or the word's fault
unfoldable pub with_row : Scan → Row → Result Scan WordFault
with_row s r =
    checked ((there? s.pin || there? s.last) || s.ended) (not (ltb r.left r.right) || leb 31 s.board.count) false
    (record {
      board = record { count = s.board.count + 1; rows = set s.board.rows s.board.count r };
      pin = s.pin;
      nets = s.nets;
      last = s.last;
      book = s.book;
      ended = s.ended;
    })

unfoldable pub with_taken : Scan → Bool → TakenPins → Result Scan WordFault
with_taken s first p =
    checked (first || ((there? s.last || pin_again s.pin p.vertex) || s.ended)) false false
    (record { board = s.board; pin = Some p.vertex; nets = s.nets; last = s.last; book = s.book; ended = s.ended })

unfoldable pub with_net : Scan → Bool → Net → Result Scan WordFault
with_net s first n =
    checked (first || (net_again s.last n.number || s.ended)) false false
    (record { board = s.board; pin = s.pin; nets = s.nets + 1; last = Some n.number; book = s.book; ended = s.ended })

unfoldable pub with_end : Scan → Bool → BoardEnd → Result Scan WordFault
with_end s first e =
    checked (first || s.ended) false (not (eqb e.rows s.board.count && eqb e.nets s.nets))
    (record { board = s.board; pin = s.pin; nets = s.nets; last = s.last; book = e.book; ended = true })

unfoldable pub with_word : Scan → Bool → BoardWord → Result Scan WordFault
with_word s first (word.Row r) = with_row s r
with_word s first (word.Taken p) = with_taken s first p
with_word s first (word.Net n) = with_net s first n
with_word s first (word.End e) = with_end s first e
with_word s first word.Unknown = Err Unknown

-- before the first word
abbrev pub start : Scan
start = record {
  board = record { count = 0; rows = replicate 31 (record { left = 0; right = 0 }) };
  pin = None;
  nets = 0;
  last = None;
  book = Old;
  ended = false;
}
