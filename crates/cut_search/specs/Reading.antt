-- The reading order from some line, or from some column of a line, on: what a search through it has still to see.
-- Assumes nothing.
use Rattle.std.specs.Prelude.{◌≡◌, refl, ℕ, ◌+◌, ◌-◌, ◌<◌}
use mathlib.Core.List.{List, ◌∷◌, ◌++◌, flat_map, map}
use Rattle.count.specs.Lists.{rising, up_to, rising_more}
use Rattle.board.specs.Board.{at}
use Rattle.board.specs.declared.Vertex.{Vertex}
use Rattle.board.specs.Order.{reading_order}

-- the places of lines l to 31; from line 0 on it is the whole reading order
unfoldable pub lines_from : ℕ → List Vertex
lines_from l = flat_map (λ k. map (at k) (up_to 32)) (rising l (32 - l))

pub lines_all : lines_from 0 ≡ reading_order
unfolding lines_from
lines_all = refl

pub lines_more : (l : ℕ) → l < 32 → lines_from l ≡ map (at l) (rising 0 (32 - 0)) ++ lines_from (l + 1)
unfolding lines_from flat_map
lines_more l h = rw (rising_more l 32 h) refl

pub line_more : (l c : ℕ) (rest : List Vertex) → c < 32
    → map (at l) (rising c (32 - c)) ++ rest ≡ at l c ∷ (map (at l) (rising (c + 1) (32 - (c + 1))) ++ rest)
line_more l c rest h = rw (rising_more c 32 h) refl
