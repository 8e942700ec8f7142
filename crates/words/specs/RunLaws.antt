-- A path has at most as many runs as edges.
-- Assumes nothing.
use Rattle.std.specs.Prelude.{Bool, true, false, cond, List, [], ◌∷◌, suc, ◌+◌, ◌≤◌, eqb, length}
use Rattle.std.proofs.Common.{arith}
use Rattle.board.specs.Path.{number}
use Rattle.board.specs.declared.Direction.{Direction}
use Rattle.words.specs.RoutingWord.{run, step_then, runs_of}
use Rattle.words.specs.declared.Run.{Run}

one_run_more : (d : Direction) (rs : List Run) → length (step_then d rs) ≤ suc (length rs)
one_run_more d [] = omega arith
one_run_more d (r ∷ rs) = go (eqb (number d) (number r.direction))
  where
    go : (t : Bool) → length (cond t (run d (r.length + 1) ∷ rs) (run d 1 ∷ (r ∷ rs))) ≤ suc (suc (length rs))
    go true = omega arith
    go false = omega arith

pub runs_few : (ds : List Direction) → length (runs_of ds) ≤ length ds
unfolding runs_of
runs_few [] = omega arith
runs_few (d ∷ ds) = omega (arith, runs_few ds, one_run_more d (runs_of ds))
