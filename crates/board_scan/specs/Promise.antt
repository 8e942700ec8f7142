-- Definitions only: what scanning a list of words promises. Nothing is proved here.
use Rattle.std.specs.Prelude as prelude
use Rattle.std.specs.Prelude.{◌≡◌, List, [], ◌∷◌, ◌++◌, ℕ, ◌-◌, length, replicate, Option, None, Some}
use Rattle.board.specs.Board.{no_row}
use Rattle.board.specs.declared.Vertex.{Vertex}
use Rattle.board_block.specs.declared.TakenPins.{TakenPins}
use Rattle.session_rules.specs.Refusal.{line, first_refusal}
use Rattle.call_rules.specs.Result.{Result, no, yes, and_then, unless}
use Rattle.call_rules.specs.Reading.{Listed, Parsed, nothing_parsed, take_words, bad_length}
use Rattle.board_scan.specs.Refused.{scan_refusal}
use Rattle.board_scan.specs.declared.Scan.{Scan}
use Rattle.board_scan.specs.declared.ScanRefusal.{ScanRefusal}

-- the words through 11, and each through 12 to 15
abbrev pub take_all : List ℕ → Result Parsed
take_all ws = unless (first_refusal (line (bad_length ws) 11 0 ∷ [])) (take_words 0 nothing_parsed ws)

-- the last net's number
abbrev pub last_of : List Listed → Option ℕ
last_of [] = None
last_of (n ∷ ns) = Some n.net.number

-- the last vertex of taken pins
abbrev pub last_vertex : List TakenPins → Option Vertex
last_vertex [] = None
last_vertex (p ∷ []) = Some p.vertex
last_vertex (p ∷ (q ∷ qs)) = last_vertex (q ∷ qs)

-- the scan that holds what t has taken: its rows in the first places of the array, rows of no cell in the others
abbrev pub scan_for : Parsed → Scan
scan_for t = record {
  board = record { count = length t.rows; rows = t.rows ++ replicate (31 - length t.rows) no_row };
  pin = last_vertex t.pins;
  nets = length t.nets;
  last = last_of t.nets;
  book = t.book;
  ended = t.ended;
}

-- the code's result as the definition's
abbrev pub scanned : prelude.Result Scan ScanRefusal → Result Scan
scanned (prelude.Err e) = no (scan_refusal e)
scanned (prelude.Ok s) = yes s

-- a refusal with its number and place; or all that the words say
abbrev pub ScanPromise : List ℕ → prelude.Result Scan ScanRefusal → Type 0
ScanPromise ws r = scanned r ≡ and_then (take_all ws) (λ t. yes (scan_for t))
