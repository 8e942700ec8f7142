use mathlib.Core.Path.{◌≡◌}
use Prim.Native.Nat.{ℕ, ◌≤◌}
use lib.ListN.{drop}
use Rattle.count.specs.Truth.{one}
use Rattle.count.specs.Lists.{tally}
use Rattle.net.specs.View.{pairs_of}
use Rattle.cut.specs.Cut.{crosses, crossing}
use Rattle.cut.specs.declared.Cut.TheVariants.{Column}
use Rattle.cut_search.proofs.last_column.Given as goal

abbrev pub invariant-loop-place : goal.invariant-loop-place
invariant-loop-place l =
    ((j : ℕ) → l.last ≤ j → tally (λ p. one (crosses (Column j) p)) (pairs_of (drop l.place-index l.place-items)) ≡ crossing (Column j) (pairs_of l.place-items))
