-- Definitions only: a text at the start of a buffer, and one put behind what stands there. Nothing is proved here.
use Rattle.std.specs.Prelude.{◌≡◌, List, ◌++◌, ℕ, ◌+◌, length, take}
use Rattle.io.specs.Counts.{IsPrefixLen}

-- the first so many bytes of the buffer are the text
abbrev pub Holds : (text : List ℕ) (count : ℕ) (buffer : List ℕ) → Type 0
Holds text count buffer = IsPrefixLen count buffer × (take count buffer ≡ text)

-- the text stands from index `at` on and ends before index `end`; what stood before it is kept
pub record Put (text : List ℕ) (at : ℕ) (before : List ℕ) (end : ℕ) (after : List ℕ) : Type 0 where
  pub ends : end ≡ at + length text
  pub bytes : take end after ≡ take at before ++ text
