-- Definitions only: the array that counts terminals, and what one net does to it. Nothing is proved here: Counting has the laws.
use Rattle.std.specs.Prelude.{◌≡◌, cond, List, ℕ, ◌+◌, ◌*◌, ◌<◌, ltb, get_or, None, Some}
use Rattle.board.specs.Board.{at}
use Rattle.net.specs.Terminals.{terminals}
use Rattle.net.specs.Grid.{changed_at}
use Rattle.net.specs.declared.Pair.{Pair}
use Rattle.net.specs.View.{Held}

-- one more, as far as a byte goes
abbrev pub raised : ℕ → ℕ
raised n = cond (ltb n 255) (n + 1) n

abbrev pub count_held : Held → List ℕ → List ℕ
count_held None a = a
count_held (Some p) a = changed_at raised p.second.line p.second.column (changed_at raised p.first.line p.first.column a)

-- the array has the terminals of each vertex in lines and columns 0 to 31
pub record Counts (ps : List Pair) (a : List ℕ) : Type 0 where
  pub here : (l c : ℕ) → l < 32 → c < 32 → get_or a (l * 32 + c) 0 ≡ terminals ps (at l c)
