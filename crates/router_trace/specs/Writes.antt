-- Definitions only: a text written into a buffer of 2,048 bytes from a place on. Nothing is proved here.
use Rattle.std.specs.Prelude.{◌≡◌, List, ◌++◌, ℕ, ◌+◌, ◌≤◌, take, drop, length}
use Rattle.router_notes.specs.Limits.{path_limit}

-- the buffer with w written at `at`
unfoldable pub wrote : List ℕ → ℕ → List ℕ → List ℕ
wrote out at w = take at out ++ (w ++ drop (at + length w) out)

-- there is room for w at `at`
pub record Room (w : List ℕ) (at : ℕ) (out : List ℕ) : Type 0 where
  pub size : length out ≡ path_limit
  pub fits : at + length w ≤ path_limit

-- the buffer keeps its length; where there is room, w is written at `at`, and the answer is its end
pub record Writes (w : List ℕ) (at : ℕ) (out : List ℕ) (r : ℕ) (out' : List ℕ) : Type 0 where
  pub kept : length out' ≡ length out
  pub end : Room w at out → r ≡ at + length w
  pub text : Room w at out → out' ≡ wrote out at w
