use Rattle.cut.specs.Cut.{crosses, crossing}
use Rattle.net.specs.View.{pairs_of}
use Rattle.count.specs.Lists.{tally}
use Rattle.count.specs.Truth.{one}
use lib.ListN.{drop}
use mathlib.Core.Path.{◌≡◌}
use Prim.Native.Nat.{◌+◌, ◌≤◌}
use Rattle.cut.proofs.tally_of.Given as goal

abbrev pub invariant-loop-place : goal.invariant-loop-place
invariant-loop-place l =
    (l.t.edges ≡ l.initial.t.edges) × (l.t.nets ≤ l.place-index) × (l.t.nets + tally (λ p. one (crosses l.x p)) (pairs_of (drop l.place-index l.place-items)) ≡ crossing l.x (pairs_of l.place-items))
