-- Definitions only: one step of the router on plain data, by what the scans found; and where it can be stuck. Nothing is proved here.
-- The two laws of it are in StepLaws: a step keeps the invariant, and the router is never stuck.
-- the corner's column and the last column of its line, as the arrays have them
use Rattle.std.specs.Prelude.{◌≡◌, true, false, ◌⊎◌, ℕ, ◌+◌, ◌-◌, ◌%◌, ◌≤◌, ◌<◌, get_or}
use Rattle.router_table.specs.Scans.{First, cross_d, leave_d, Least, swap_d}
use Rattle.router_invariant.specs.Run.{Run, line_r, col_r, ul_r, nul_r}
use Rattle.router_invariant.proofs.OneEdge.{right_run, down_run}
use Rattle.router_invariant.proofs.TwoEnds.{split_run}
use Rattle.router_invariant.proofs.Helper.{helper_run}
use Rattle.router_invariant.specs.Divide.{divide_run}
use Rattle.router_invariant.proofs.Choice.{far_w}

abbrev pub end_r : Run → ℕ
end_r R = get_or R.hi (line_r R) 0

abbrev pub FirstR : Run → (v from i : ℕ) → Type 0
FirstR R v from i = First R.la R.lb v from R.n i

-- no end at the corner, and how many pairs cross the two cuts
abbrev pub NoEnd : Run → Type 0
NoEnd R = (col_r R < end_r R) × (R.top < R.bottom) × FirstR R (ul_r R) 0 R.n

abbrev pub LeftFull : Run → Type 0
LeftFull R = cross_d R.la R.lb (col_r R) R.n ≡ R.bottom - R.top + 1

abbrev pub TopFull : Run → Type 0
TopFull R = leave_d R.la R.lb (line_r R) R.n + col_r R ≡ end_r R + 1

pub data Step (R R' : Run) : Type 0 where
  -- one edge
  right : (i : ℕ) → col_r R < end_r R → R.top ≡ R.bottom → FirstR R (ul_r R) 0 i → i < R.n → R' ≡ right_run R i → Step R R'
  down : (i : ℕ) → col_r R ≡ end_r R → R.top < R.bottom → FirstR R (ul_r R) 0 i → i < R.n → R' ≡ down_run R i → Step R R'
  -- two edges, two ends
  split_two : (i j : ℕ) → col_r R < end_r R → R.top < R.bottom → FirstR R (ul_r R) 0 i → i < R.n → FirstR R (ul_r R) (i + 1) j → j < R.n
      → ((swap_d (far_w R i) (far_w R j) (line_r R) (col_r R) ≡ false) × (R' ≡ split_run R i j)) ⊎
      ((swap_d (far_w R i) (far_w R j) (line_r R) (col_r R) ≡ true) × (R' ≡ split_run R j i)) → Step R R'
  -- two edges, no end
  nearest : (i : ℕ) → NoEnd R → LeftFull R → Least R.la R.lb R.n (col_r R) R.up i → i < R.n
      → ((col_r R < get_or R.la i 0 % 32) × (R' ≡ divide_run R i true)) ⊎ ((get_or R.la i 0 % 32 ≤ col_r R) × (R' ≡ divide_run R i false)) → Step R R'
  at_nul : (i : ℕ) → NoEnd R → (LeftFull R → ⊥) → TopFull R → FirstR R (nul_r R) 0 i → i < R.n
      → ((get_or R.la i 0 ≡ nul_r R) × (R' ≡ divide_run R i true)) ⊎ ((get_or R.la i 0 ≡ nul_r R → ⊥) × (R' ≡ divide_run R i false)) → Step R R'
  helped : NoEnd R → (LeftFull R → ⊥) → (TopFull R → ⊥) → R' ≡ helper_run R → Step R R'

pub data Stuck (R : Run) : Type 0 where
  no_right : (i : ℕ) → col_r R < end_r R → R.top ≡ R.bottom → FirstR R (ul_r R) 0 i → R.n ≤ i → Stuck R
  no_down : (i : ℕ) → col_r R ≡ end_r R → R.top < R.bottom → FirstR R (ul_r R) 0 i → R.n ≤ i → Stuck R
  no_second : (i j : ℕ) → col_r R < end_r R → R.top < R.bottom → FirstR R (ul_r R) 0 i → i < R.n → FirstR R (ul_r R) (i + 1) j → R.n ≤ j → Stuck R
  no_nearest : (i : ℕ) → NoEnd R → LeftFull R → Least R.la R.lb R.n (col_r R) R.up i → R.n ≤ i → Stuck R
  no_nul : (i : ℕ) → NoEnd R → TopFull R → FirstR R (nul_r R) 0 i → R.n ≤ i → Stuck R
  -- a single vertex, or a line that is empty or out of the frame
  no_edge : col_r R ≡ end_r R → R.top ≡ R.bottom → Stuck R
  no_line : (end_r R < col_r R) ⊎ (R.bottom < R.top) → Stuck R
