-- Definitions only: the directions that bytes stand for, a run of them, and words written at the start of a buffer. Nothing is proved here.
use Rattle.std.specs.Prelude.{◌≡◌, List, ◌∷◌, ◌++◌, map, ℕ, ◌+◌, ◌<◌, ◌≤◌, get_or, drop, length}
use Rattle.board.specs.declared.Direction.{Direction}
use Rattle.words.specs.RoutingWord.{direction, run, runs_of}

-- "0 up, 1 right, 2 down, 3 left"
abbrev pub directions : List ℕ → List Direction
directions bytes = map direction bytes

-- the directions from a place on begin with a run of this length
pub record RunAt (bytes : List ℕ) (from n : ℕ) : Type 0 where
  pub some : 0 < n
  pub within : from + n ≤ length bytes
  pub runs : runs_of (directions (drop from bytes)) ≡ run (direction (get_or bytes from 0)) n ∷ runs_of (directions (drop (from + n) bytes))

-- the count of the words ws, and, if they fit, the buffer with them at its start
pub record Written (ws out : List ℕ) (count : ℕ) (out' : List ℕ) : Type 0 where
  pub counted : count ≡ length ws
  pub text : length ws ≤ length out → out' ≡ ws ++ drop (length ws) out
