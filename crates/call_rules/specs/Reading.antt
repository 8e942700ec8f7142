-- Definitions only: reading a board from words and from bytes (document 01, "Board words", refusals 10 to 16 and 21 to 25; taken pins and 38:
-- document 02, §8; the rule book: §9). Nothing is proved here.
use Rattle.std.specs.Prelude.{Bool, true, false, not, ◌&&◌, ◌||◌, List, [], ◌∷◌, ◌++◌, ℕ, suc, leb, ltb, eqb, length}
use Rattle.std.proofs.Math.Option.{Option, none, some}
use Rattle.board.specs.Board.{Board}
use Rattle.board.specs.declared.Row.{Row}
use Rattle.board.specs.declared.Vertex.{Vertex}
use Rattle.board_block.specs.Block.{Block}
use Rattle.board_block.specs.Taken.{comes_before, over_taken}
use Rattle.board_block.specs.declared.Book.{Book}
use Rattle.board_block.specs.declared.Book.TheVariants.{Old}
use Rattle.board_block.specs.declared.TakenPins.{TakenPins}
use Rattle.board_convex.specs.Test.{is_convex}
use Rattle.net.specs.declared.Net.{Net}
use Rattle.session_rules.specs.Refusal.{Refusal, refusal, Line, line, first_refusal}
use Rattle.session_rules.specs.Session.{Session, with_nets, insert}
use Rattle.session_rules.specs.Add.{add_refused}
use Rattle.session_rules.specs.Sound.{bare, blank}
use Rattle.words.specs.BoardWord.{board_word}
use Rattle.words.specs.Bytes.{words_in, uneven}
use Rattle.words.specs.declared.BoardWord.{BoardWord}
use Rattle.words.specs.declared.BoardWord.TheVariants as word
use Rattle.call_rules.specs.Result.{Result, no, yes, and_then, unless}

-- the greatest count of a board's words: "The limits of 11 and 18 become 224 words" (02, §8)
abbrev pub board_limit : ℕ
board_limit = 224

-- a net word with its index in the list
pub record Listed : Type 0 where
  pub index : ℕ
  pub net : Net

-- what the words so far have said: rows from the top, taken pins in their order, nets with the last one first, whether the end word has been, and the
-- book that it names, the old one before it
pub record Parsed : Type 0 where
  pub rows : List Row
  pub pins : List TakenPins
  pub nets : List Listed
  pub book : Book
  pub ended : Bool

abbrev pub nothing_parsed : Parsed
nothing_parsed = record { rows = []; pins = []; nets = []; book = Old; ended = false }

abbrev pub is_row : BoardWord → Bool
is_row (word.Row r) = true
is_row (word.Taken p) = false
is_row (word.Net n) = false
is_row (word.End c) = false
is_row word.Unknown = false

abbrev pub is_unknown : BoardWord → Bool
is_unknown (word.Row r) = false
is_unknown (word.Taken p) = false
is_unknown (word.Net n) = false
is_unknown (word.End c) = false
is_unknown word.Unknown = true

-- "net number not above the last"; "The first net word has no last"
abbrev pub not_above : ℕ → List Listed → Bool
not_above k [] = false
not_above k (n ∷ ns) = leb k n.net.number

-- 02, §8: "a vertex not after the last one's in reading order"; the first of them has no last
abbrev pub not_after : Vertex → List TakenPins → Bool
not_after v [] = false
not_after v (p ∷ []) = not (comes_before p.vertex v)
not_after v (p ∷ (q ∷ qs)) = not_after v (q ∷ qs)

-- there is one before
abbrev pub some? : {A : Type 0} → List A → Bool
some? [] = false
some? (x ∷ xs) = true

-- 13, by the kind of the word: "row after net, net number not above the last"; "a kind 3 word .. after a net or with a vertex not after the last
-- one's in reading order, and a row after one" (02, §8)
abbrev pub misplaced : Parsed → BoardWord → Bool
misplaced t (word.Row r) = some? t.pins || some? t.nets
misplaced t (word.Taken p) = some? t.nets || not_after p.vertex t.pins
misplaced t (word.Net n) = not_above n.number t.nets
misplaced t (word.End c) = false
misplaced t word.Unknown = false

-- 14: "left not below right, or a 32nd row"
abbrev pub bad_row : Parsed → BoardWord → Bool
bad_row t (word.Row r) = not (ltb r.left r.right) || leb 31 (length t.rows)
bad_row t (word.Taken p) = false
bad_row t (word.Net n) = false
bad_row t (word.End c) = false
bad_row t word.Unknown = false

-- 15: "a count differs"
abbrev pub bad_count : Parsed → BoardWord → Bool
bad_count t (word.Row r) = false
bad_count t (word.Taken p) = false
bad_count t (word.Net n) = false
bad_count t (word.End c) = not (eqb c.rows (length t.rows) && eqb c.nets (length t.nets))
bad_count t word.Unknown = false

-- the lines of the table for the word at index i
unfoldable pub word_lines : ℕ → Parsed → BoardWord → List Line
word_lines i t w =
    line (is_unknown w) 12 i
    ∷ line ((eqb i 0 && not (is_row w)) || (misplaced t w || t.ended)) 13 i
    ∷ line (bad_row t w) 14 i
    ∷ line (bad_count t w) 15 i
    ∷ []

-- with what the word at index i says
abbrev pub take : ℕ → Parsed → BoardWord → Parsed
take i t (word.Row r) = record { rows = t.rows ++ (r ∷ []); pins = t.pins; nets = t.nets; book = t.book; ended = t.ended }
take i t (word.Taken p) = record { rows = t.rows; pins = t.pins ++ (p ∷ []); nets = t.nets; book = t.book; ended = t.ended }
take i t (word.Net n) = record { rows = t.rows; pins = t.pins; nets = record { index = i; net = n } ∷ t.nets; book = t.book; ended = t.ended }
take i t (word.End c) = record { rows = t.rows; pins = t.pins; nets = t.nets; book = c.book; ended = true }
take i t word.Unknown = t

-- "Board words are taken one by one, each through 12 to 15"; 13 also: "list over without an end (index = length)"
unfoldable pub take_words : ℕ → Parsed → List ℕ → Result Parsed
take_words i t [] = unless (first_refusal (line (not t.ended) 13 i ∷ [])) (yes t)
take_words i t (w ∷ ws) = unless (first_refusal (word_lines i t (board_word w))) (take_words (suc i) (take i t (board_word w)) ws)

-- "then nets as adds"; "Where nets of board words are refused, the place is the word's index."
abbrev pub placed_at : ℕ → Option Refusal → Option Refusal
placed_at i none = none
placed_at i (some r) = some (refusal r.number i)

unfoldable pub add_listed : Block → List Net → List Listed → Result (List Net)
add_listed b on [] = yes on
add_listed b on (n ∷ ns) = unless (placed_at n.index (add_refused b on n.net)) (add_listed b (insert n.net on) ns)

abbrev pub reverse : List Listed → List Listed → List Listed
reverse [] back = back
reverse (n ∷ ns) back = reverse ns (n ∷ back)

abbrev pub board_in : Parsed → Board
board_in t = record { rows = t.rows }

-- "Taken pins belong to the board."; "Adding, taken pins and reading follow the board's rule." (02, §9)
abbrev pub block_in : Parsed → Block
block_in t = record { board = board_in t; book = t.book; taken = t.pins }

-- "Reading gives a session with an empty pile"; "a fresh, read or blank one has nothing kept" (02, §5)
unfoldable pub read_nets : Parsed → Result Session
read_nets t =
    and_then (add_listed (block_in t) [] (reverse t.nets []))
    (λ ns. yes (with_nets (bare (block_in t)) ns []))

-- 38, "place the word index": of taken pins whose words stand from index i on
unfoldable pub pin_lines : Book → Board → (i : ℕ) → List TakenPins → List Line
pin_lines k b i [] = []
pin_lines k b i (p ∷ ps) = line (over_taken k b p) 38 i ∷ pin_lines k b (suc i) ps

-- "then 16"; "38 after 16 and before the nets". The words of taken pins follow those of the rows, so the first stands at an index that is the count
-- of rows
unfoldable pub read_parsed : Parsed → Result Session
read_parsed t =
    unless (first_refusal (line (not (is_convex (board_in t))) 16 0 ∷ pin_lines t.book (board_in t) (length t.rows) t.pins)) (read_nets t)

-- 11: "no words or more than 96", now 224
abbrev pub bad_length : List ℕ → Bool
bad_length ws = eqb (length ws) 0 || ltb board_limit (length ws)

-- the session that a list of words gives, or the refusal
unfoldable pub read_words : List ℕ → Result Session
read_words ws = unless (first_refusal (line (bad_length ws) 11 0 ∷ [])) (and_then (take_words 0 nothing_parsed ws) read_parsed)

-- and a list of bytes
unfoldable pub read_bytes : List ℕ → Result Session
read_bytes bs = unless (first_refusal (line (uneven bs) 10 0 ∷ [])) (read_words (words_in bs))

-- "A refused reading gives the blank session"
abbrev pub handed_back : Result Session → Session
handed_back (no r) = blank
handed_back (yes s) = s
