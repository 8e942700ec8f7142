-- Definitions only: the directions of moves, as bytes: 0 up, 1 right, 2 down, 3 left; and what notes keep to. Nothing is proved here.
use Rattle.std.specs.Prelude.{◌≡◌, List, [], ◌∷◌, ◌⊎◌, ℕ, ◌<◌, get_or}
use Rattle.corner.specs.Trails.{hor, ver}
use Rattle.router_notes.specs.Notes.{Move, fwd, bwd}

abbrev pub dir_of : Move → ℕ
dir_of (fwd (hor l c)) = 1
dir_of (fwd (ver l c)) = 2
dir_of (bwd (hor l c)) = 3
dir_of (bwd (ver l c)) = 0

abbrev pub dirs : List Move → List ℕ
dirs [] = []
dirs (m ∷ ms) = dir_of m ∷ dirs ms

-- a pair's halves were made later than the pair, and the two moves at a corner have directions
pub record Ordered (half d1 d2 : List ℕ) : Type 0 where
  pub later : (k : ℕ) → (get_or half k 0 ≡ 0) ⊎ (k < get_or half k 0)
  pub first : (k : ℕ) → get_or d1 k 0 < 4
  pub second : (k : ℕ) → get_or d2 k 0 < 4
