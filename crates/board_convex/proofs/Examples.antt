-- The definitions at work: cases f, g and h of document 01, a board that is not convex although its neighbouring rows are nested, as are its
-- first and last, and a path with one bend.
-- Assumes nothing.
use Rattle.std.specs.Prelude.{◌≡◌, refl, true, false, [], ◌∷◌, ◌⊎◌, ℕ, zero, suc, ◌<◌}
use Rattle.std.proofs.Common.{inl, inr, arith}
use Rattle.count.specs.TruthLaws.{clash}
use Rattle.board.specs.Board.{Board, height, Within, Cell, at, top_right, IsVertex, top_side, right_side}
use Rattle.board.specs.Path.{Path, turn, turns, Convex}
use Rattle.board.specs.Degree.{below_right, below_left, above_right, above_left, vertex?, edge?, degree, pins}
use Rattle.board.specs.declared.Row.{Row}
use Rattle.board.specs.declared.Direction.TheVariants.{Right, Down}
use Rattle.board_convex.specs.Form.{Contains}
use Rattle.board_convex.specs.Test.{rows_fit, in_limits, contains?, peels, is_convex}
use Rattle.board_convex.specs.Cells.{cells_at, Concave}
use Rattle.board_convex.proofs.Limits.{in-limits}
use Rattle.board_convex.proofs.Exact.{is-convex}

-- the row from column l to column r
abbrev from_to : ℕ → ℕ → Row
from_to l r = record { left = l; right = r }

not_convex : (b : Board) → in_limits b ≡ true → is_convex b ≡ false → Within b × (Convex b → ⊥)
not_convex b w e = let k = (in-limits b).0 w in (k, λ c. clash ((is-convex b).1 (k, c)) e)

abbrev pub board_f : Board
board_f = record { rows = from_to 0 1 ∷ from_to 1 2 ∷ [] }

pub case_f : Within board_f × (Convex board_f → ⊥)
unfolding is_convex in_limits peels rows_fit contains?
case_f = not_convex board_f refl refl

abbrev pub board_g : Board
board_g = record { rows = from_to 0 2 ∷ from_to 0 1 ∷ from_to 0 2 ∷ [] }

pub case_g : Within board_g × (Convex board_g → ⊥)
unfolding is_convex in_limits peels rows_fit contains?
case_g = not_convex board_g refl refl

abbrev pub board_h : Board
board_h = record { rows = from_to 1 2 ∷ from_to 0 3 ∷ from_to 1 2 ∷ [] }

pub case_h : Within board_h × Convex board_h
unfolding is_convex in_limits peels rows_fit contains?
case_h = (is-convex board_h).0 refl

-- (1, 1) is a vertex of it, a concave corner, and has no pin
pub case_h_vertex : IsVertex board_h (at 1 1)
case_h_vertex = (1, 0, record { row = omega arith; from = omega arith; to = omega arith }, top_right)

pub case_h_concave : Concave board_h (at 1 1)
unfolding cells_at above_left above_right below_left below_right
case_h_concave = refl

pub case_h_pins : pins board_h (at 1 1) ≡ 0
unfolding pins degree vertex? edge? above_left above_right below_left below_right
case_h_pins = refl

-- neighbours are nested, as are the first and the last row; but rows 1-3 and 2-4 are not
abbrev pub board_across : Board
board_across = record { rows = from_to 2 3 ∷ from_to 1 3 ∷ from_to 0 5 ∷ from_to 2 4 ∷ from_to 2 3 ∷ [] }

pub case_across : Within board_across × (Convex board_across → ⊥)
unfolding is_convex in_limits peels rows_fit contains?
case_across = not_convex board_across refl refl

pub across_neighbours : (i : ℕ) → suc i < height board_across → Contains board_across i (suc i) ⊎ Contains board_across (suc i) i
across_neighbours zero h = inr (omega arith, omega arith)
across_neighbours (suc zero) h = inr (omega arith, omega arith)
across_neighbours (suc (suc zero)) h = inl (omega arith, omega arith)
across_neighbours (suc (suc (suc zero))) h = inl (omega arith, omega arith)
across_neighbours (suc (suc (suc (suc i)))) h = absurd (omega arith)

pub across_ends : Contains board_across 0 4
across_ends = (omega arith, omega arith)

-- a path with one bend, written out: on one cell, from (0, 0) right and down to (1, 1)
abbrev one_cell : Board
one_cell = record { rows = from_to 0 1 ∷ [] }

pub one_cell_path : Path one_cell (at 0 0) (Right ∷ Down ∷ []) (at 1 1)
one_cell_path =
    let c : Cell one_cell 0 0 = record { row = omega arith; from = omega arith; to = omega arith } in
    ((0, 0, c, top_side), ((0, 0, c, right_side), refl))

pub one_cell_turns : turns (Right ∷ Down ∷ []) ≡ 1
unfolding turns turn
one_cell_turns = refl
