-- The difference of two numbers below 256 fits an i32 (one law for both needs of `margin_of`).
-- Assumes nothing.
use Prim.Native.Nat.{ℕ, zero, suc, ◌-◌, ◌<◌}
use mathlib.Core.Bool.{Bool, true, false, cond}
use native.Mathlib.Omega.{arith}
use lib.Dec.{ltb}
use lib.IntN.{pos, negsuc, ◌-ℤ◌}
use lib.Signed.{mag}
use mir.Syntax.{w32}
use mir.Val.{SFits, to_z}
use mir.Facts.{to_z_pos}

pick : (t : Bool) (m n : ℕ) → m < 256 → n < 256 → mag (cond t (negsuc m) (pos n)) < 256
pick true m n h k = h
pick false m n h k = k

pub small : (a b : ℕ) → a < 256 → b < 256 → mag (pos a -ℤ pos b) < 256
small a zero h k = omega arith
small a (suc b) h k = pick (ltb a (suc b)) (suc b - suc a) (a - suc b) (omega arith) (omega arith)

pub difference_fits : (a b : ℕ) → a < 256 → b < 256 → SFits w32 (pos a -ℤ pos b)
difference_fits a b h k = let s = small a b h k in record { sfits = omega arith }

-- the same of the two numbers as i32
pub cast_difference_fits : (a b : ℕ) → a < 256 → b < 256 → SFits w32 (to_z w32 a -ℤ to_z w32 b)
cast_difference_fits a b h k = rw (to_z_pos w32 {n = a} (omega arith), to_z_pos w32 {n = b} (omega arith)) (difference_fits a b h k)
