-- Definitions only: the lines of a board in two arrays, line by line the first and the last column. Nothing is proved here.
use Rattle.std.specs.Prelude.{◌≡◌, List, map, ℕ}
use Rattle.count.specs.Lists.{up_to}
use Rattle.board.specs.Board.{Board}
use Rattle.corner.proofs.Lines.{lines_of}
use Rattle.router_start.specs.Front.{in_front}

-- the first n lines are written, and what stood after them is untouched
pub record Lined (b : Board) (n : ℕ) (lo hi lo' hi' : List ℕ) : Type 0 where
  pub first : lo' ≡ in_front (map (lines_of b).a (up_to n)) lo
  pub last : hi' ≡ in_front (map (lines_of b).b (up_to n)) hi
