-- The rows and the cells of the board that a value of the code's struct stands for.
-- Assumes nothing.
use Rattle.std.specs.Prelude.{◌≡◌, ◌&&◌, ℕ, ◌+◌, ◌<◌, leb, ltb, length, set}
use Rattle.std.proofs.Math.Path.{refl, ap}
use Rattle.std.proofs.Common.{◌∙◌, inl, inr, get_or-set_same, le-ltb}
use mathlib.Core.List.{List, [], ◌∷◌, ◌++◌, map}
use native.Mathlib.Omega.{arith}
use Rattle.std.proofs.Math.ListN.{get_or}
use Rattle.std.proofs.Math.Seq.{get_or-set_other}
use Rattle.std.proofs.Math.Numerals.{add-one}
use Rattle.count.specs.TruthLaws.{le_or_lt}
use Rattle.count.specs.Lists.{up_to, length-rising, getD-rising, rising_snoc, map_rising}
use Rattle.board.specs.Board.{height, left, right, no_row}
use Rattle.board.specs.Degree.{cell?}
use Rattle.board.specs.declared.Row.{Row}
use Rattle.board.specs.declared.Board as code
use Rattle.board.specs.View.{board_of}

pub height_of : (b : code.Board) → height (board_of b) ≡ b.count
unfolding board_of
height_of b = length-rising (λ i. get_or b.rows i no_row) 0 b.count

pub row_of : (b : code.Board) (i : ℕ) → i < b.count → get_or (board_of b).rows i no_row ≡ get_or b.rows i no_row
unfolding board_of
row_of b i h = let e : 0 + i ≡ i = omega arith in rw e at (getD-rising (λ j. get_or b.rows j no_row) 0 b.count i no_row h)

pub left-of : (b : code.Board) (i : ℕ) → i < b.count → left (board_of b) i ≡ (get_or b.rows i no_row).left
left-of b i h = ap (λ (r : Row). r.left) (row_of b i h)

pub right_of : (b : code.Board) (i : ℕ) → i < b.count → right (board_of b) i ≡ (get_or b.rows i no_row).right
right_of b i h = ap (λ (r : Row). r.right) (row_of b i h)

-- a cell of the board, by the array
pub cell_of : (b : code.Board) (i j : ℕ)
    → cell? (board_of b) i j ≡ ltb i b.count && (leb (get_or b.rows i no_row).left j && ltb j (get_or b.rows i no_row).right)
cell_of b i j = elim (le_or_lt b.count i) [
  | inl h ↦ rw (height_of b, le-ltb i b.count h) refl
  | inr h ↦ rw (height_of b, left-of b i h, right_of b i h) refl
]

-- one row more
module _ (b : code.Board) (r : Row) (h : b.count < length b.rows) where
  now-row : ℕ → Row
  now-row i = get_or (set b.rows b.count r) i no_row

  kept-rows : map now-row (up_to b.count) ≡ map (λ i. get_or b.rows i no_row) (up_to b.count)
  unfolding now-row
  kept-rows = map_rising now-row (λ i. get_or b.rows i no_row) 0 b.count
      (λ i p q. get_or-set_other b.rows b.count i r no_row (λ z. omega (arith, z)))

  new_row : now-row (0 + b.count) ≡ r
  unfolding now-row
  new_row = let e : 0 + b.count ≡ b.count = omega arith in rw e (get_or-set_same b.rows b.count r no_row h)

  pub board-more : board_of (record { count = b.count + 1; rows = set b.rows b.count r }) ≡ record { rows = (board_of b).rows ++ (r ∷ []) }
  unfolding board_of now-row
  board-more =
      let e : map now-row (up_to (b.count + 1)) ≡ map now-row (up_to b.count) ++ (now-row (0 + b.count) ∷ []) =
      rw add-one (rising_snoc now-row 0 b.count) in
      let f : map now-row (up_to b.count) ++ (now-row (0 + b.count) ∷ []) ≡ map (λ i. get_or b.rows i no_row) (up_to b.count) ++ (r ∷ []) =
      rw (kept-rows, new_row) refl in
      ap (λ (rs : List Row). record { rows = rs }) (e ∙ f)
