-- Definitions only: what every step starts from. Nothing is proved here.
use Rattle.std.specs.Prelude.{Bool, true, false, ℕ}
use Rattle.corner.specs.Pairs.{Proper}
use Rattle.corner.specs.Shape.{Top}
use Rattle.router_notes.specs.State.{State}
use Rattle.router_invariant.specs.Run.{Run, shape_r, pairs_r, Sized, Holds}

-- the invariant, no trivial pair, and every line contains the top line
pub record Ready (s0 : State) (R : Run) : Type 0 where
  pub holds : Holds s0 R
  pub sized : Sized R
  pub proper : Proper (pairs_r R)
  pub inside : Top (shape_r R)

-- downwards, or upwards where the shape is read upside down
abbrev pub up_n : Bool → ℕ
up_n false = 0
up_n true = 1
