-- Definitions only: the boards, nets and words of document 01's table "Boards to be proved". Nothing is proved here.
use Rattle.std.specs.Prelude.{List, [], ◌∷◌, ℕ}
use Rattle.board.specs.Board.{Board, at}
use Rattle.board.specs.declared.Row.{Row}
use Rattle.board_block.specs.Block.{plain}
use Rattle.net.specs.declared.Net.{Net}
use Rattle.session_rules.specs.Session.{Session, with_nets}
use Rattle.session_rules.specs.Sound.{bare}
use Rattle.call_rules.specs.Result.{Result, no, yes}

-- row l-r
abbrev pub row : ℕ → ℕ → Row
row l r = record { left = l; right = r }

abbrev pub board : List Row → Board
board rs = record { rows = rs }

-- net k: (l, c)-(m, d)
abbrev pub net : ℕ → (l c m d : ℕ) → Net
net k l c m d = record { number = k; ends = record { first = at l c; second = at m d } }

abbrev pub session : List Row → List Net → Session
session rs ns = with_nets (bare (plain (board rs))) ns []

-- "The ring, printed whole": the input words and the printed words
abbrev pub ring_input : List ℕ
ring_input = 0x10000001 ∷ 0x20100001 ∷ 0x20200421 ∷ 0x20308420 ∷ 0x20408000 ∷ 0xF0000104 ∷ []

abbrev pub ring_output : List ℕ
ring_output =
    0x40100001 ∷ 0x54000001 ∷ 0x40200001 ∷ 0x58000001 ∷ 0x40300001 ∷ 0x5C000001 ∷ 0x40400001 ∷ 0x50000001 ∷ 0xE0000004 ∷ []

-- the ring: one cell, a net along each of its sides
abbrev pub ring : Session
ring = session (row 0 1 ∷ []) (net 1 0 0 0 1 ∷ net 2 0 1 1 1 ∷ net 3 1 1 1 0 ∷ net 4 1 0 0 0 ∷ [])

-- a refusal as one list: its number, then its place numbers; nothing where there is none
abbrev pub why : {A : Type 0} → Result A → List ℕ
why (no r) = r.number ∷ r.place
why (yes a) = []
