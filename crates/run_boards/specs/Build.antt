-- Definitions only: boards and nets as values of the code, made row by row and net by net. Nothing is proved here.
use Rattle.std.specs.Prelude.{cond, List, ℕ, ◌+◌, ltb, set, replicate, Some}
use Rattle.board.specs.Board.{no_row, at}
use Rattle.board.specs.declared.Board.{Board}
use Rattle.net.specs.View.{Held, nothing}
use Rattle.net.specs.declared.Pair.{Pair}

-- a board of no rows
abbrev pub empty : Board
empty = record { count = 0; rows = replicate 31 no_row }

-- the board with the row from column l to column r below its last one; one of 31 rows stays as it is
unfoldable pub with_row : Board → ℕ → ℕ → Board
with_row b l r = cond (ltb b.count 31)
    (record { count = b.count + 1; rows = set b.rows b.count (record { left = l; right = r }) }) b

-- no nets, and the nets with one more at a place
abbrev pub no_nets : List Held
no_nets = replicate 64 nothing

abbrev pub with_net : List Held → ℕ → Pair → List Held
with_net nets i p = set nets i (Some p)

-- the terminals at line k and column c, and at line l and column d
abbrev pub pair_at : ℕ → ℕ → ℕ → ℕ → Pair
pair_at k c l d = record { first = at k c; second = at l d }
