-- The peeling as a loop goes: one row taken at the top, one at the bottom, and the last row.
-- Assumes nothing.
use Rattle.std.specs.Prelude.{◌≡◌, Bool, true, false, ◌&&◌, List}
use Prim.Native.Nat.{ℕ, suc, ◌+◌, ◌-◌, ◌≤◌, ◌<◌}
use native.Mathlib.Omega.{arith}
use Rattle.std.proofs.Common.{add-one}
use Rattle.count.specs.TruthLaws.{and_assoc}
use Rattle.board.specs.declared.Row.{Row}
use Rattle.board_convex.specs.Test.{row, contains?, peels}

-- so far all was well when `ok`, rows lo to hi are left, and the whole answer is s
module _ (rows : List Row) (ok s : Bool) (inner : Row) (lo hi : ℕ) (so_far : ok && peels rows inner lo (hi - lo) ≡ s) where
  pub take-top : lo < hi → contains? (row rows hi) (row rows lo) ≡ true
      → (ok && contains? (row rows lo) inner) && peels rows (row rows lo) (lo + 1) (hi - (lo + 1)) ≡ s
  unfolding peels
  take-top h t =
      let f : hi - lo ≡ suc (hi - suc lo) = omega arith in
      let g : lo + suc (hi - suc lo) ≡ hi = omega arith in
      rw (and_assoc, add-one) (rw (f, g, t) at so_far)

  pub take-bottom : lo < hi → contains? (row rows hi) (row rows lo) ≡ false
      → (ok && contains? (row rows hi) inner) && peels rows (row rows hi) lo ((hi - 1) - lo) ≡ s
  unfolding peels
  take-bottom h t =
      let f : hi - lo ≡ suc ((hi - 1) - lo) = omega arith in
      let g : lo + suc ((hi - 1) - lo) ≡ hi = omega arith in
      rw and_assoc (rw (f, g, t) at so_far)

  pub take_last : hi ≤ lo → ok && contains? (row rows lo) inner ≡ s
  unfolding peels
  take_last h = let f : hi - lo ≡ 0 = omega arith in rw f at so_far
