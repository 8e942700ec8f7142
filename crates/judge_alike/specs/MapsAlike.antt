-- Definitions only: two maps of used edges that have the same net at every slot. Nothing is proved here.
-- Of two lists that pass on a board within the limits it is the test `alike?` of crate call_rules: `lists-alike`, in the file Alike beside this one.
use Rattle.std.specs.Prelude.{Bool, true, ◌&&◌, List, ℕ, zero, suc, eqb, get_or}
use Rattle.judge_walk.specs.Slots.{slots}

-- a test holds for each of n numbers from k on
unfoldable pub all_from : (k n : ℕ) → (ℕ → Bool) → Bool
all_from k zero t = true
all_from k (suc n) t = t k && all_from (suc k) n t

-- the same net, or none, uses each edge
unfoldable pub maps_alike : List ℕ → List ℕ → Bool
maps_alike a m = all_from 0 slots (λ s. eqb (get_or a s 0) (get_or m s 0))
