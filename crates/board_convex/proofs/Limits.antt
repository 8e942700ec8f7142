-- The test of the limits is exact.
-- Assumes nothing.
use Rattle.std.specs.Prelude.{◌≡◌, refl, true, ◌&&◌, List, ◌↔◌, ℕ, zero, suc, ◌≤◌, ◌<◌, leb, ltb}
use Rattle.std.proofs.Common.{inl, inr, arith, leb-true, le-leb, ltb-true, lt-ltb}
use Rattle.count.specs.TruthLaws.{and_true, and_yes, le_or_lt}
use Rattle.board.specs.Board.{Board, Within, height}
use Rattle.board.specs.declared.Row.{Row}
use Rattle.board_convex.specs.Test.{row, rows_fit, in_limits}

-- DEFINITION: the row has a cell and ends by column 31
abbrev Fits : Row → Type 0
Fits r = (r.left < r.right) × (r.right ≤ 31)

rows-fit : (rows : List Row) (n : ℕ) → rows_fit rows n ≡ true → (i : ℕ) → i < n → Fits (row rows i)
unfolding rows_fit
rows-fit rows zero e i h = absurd (omega arith)
rows-fit rows (suc n) e i h =
    let k = and_true (rows_fit rows n) (ltb (row rows n).left (row rows n).right && leb (row rows n).right 31) e in
    elim (le_or_lt n i) [
      | inl p ↦
          let f : i ≡ n = omega arith in
          let m = and_true (ltb (row rows n).left (row rows n).right) (leb (row rows n).right 31) k.1 in
          rw f (ltb-true _ _ m.0, leb-true _ _ m.1)
      | inr p ↦ rows-fit rows n k.0 i p
    ]

rows_fit_yes : (rows : List Row) (n : ℕ) → ((i : ℕ) → i < n → Fits (row rows i)) → rows_fit rows n ≡ true
unfolding rows_fit
rows_fit_yes rows zero h = refl
rows_fit_yes rows (suc n) h =
    let k = h n (omega arith) in
    and_yes (rows_fit rows n) (ltb (row rows n).left (row rows n).right && leb (row rows n).right 31)
    (rows_fit_yes rows n (λ i p. h i (omega arith)))
    (and_yes (ltb (row rows n).left (row rows n).right) (leb (row rows n).right 31) (lt-ltb _ _ k.0) (le-leb _ _ k.1))

-- The test is true exactly when the board is within the limits.
pub in-limits : (b : Board) → (in_limits b ≡ true) ↔ Within b
unfolding in_limits
in-limits b = (
  λ e.
      let k = and_true (leb 1 (height b) && leb (height b) 31) (rows_fit b.rows (height b)) e in
      let r = and_true (leb 1 (height b)) (leb (height b) 31) k.0 in
      record {
        some = leb-true _ _ r.0;
        few = leb-true _ _ r.1;
        cells = λ i h. (rows-fit b.rows (height b) k.1 i h).0;
        fits = λ i h. (rows-fit b.rows (height b) k.1 i h).1;
      },
  λ w.
      and_yes (leb 1 (height b) && leb (height b) 31) (rows_fit b.rows (height b))
      (and_yes (leb 1 (height b)) (leb (height b) 31) (le-leb _ _ w.some) (le-leb _ _ w.few))
      (rows_fit_yes b.rows (height b) (λ i p. (w.cells i p, w.fits i p))),
)

-- the test sees only the first n rows
pub rows_fit_same : (r s : List Row) (n : ℕ) → ((i : ℕ) → i < n → row r i ≡ row s i) → rows_fit r n ≡ rows_fit s n
unfolding rows_fit
rows_fit_same r s zero h = refl
rows_fit_same r s (suc n) h = rw (h n (omega arith), rows_fit_same r s n (λ i k. h i (omega arith))) refl
