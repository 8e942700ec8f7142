use Rattle.net.specs.View.{pairs_of}
use Rattle.net.specs.Terminals.{ends, terminals}
use Rattle.count.specs.Lists.{tally}
use lib.ListN.{drop}
use mathlib.Core.Path.{◌≡◌}
use Prim.Native.Nat.{◌+◌, ◌*◌, ◌≤◌}
use Rattle.net.proofs.terminals_at.Given as goal

abbrev pub invariant-loop-place : goal.invariant-loop-place
invariant-loop-place l = (l.n ≤ 2 * l.place-index)
    × (l.n + tally (λ p. ends p l.v) (pairs_of (drop l.place-index l.place-items)) ≡ terminals (pairs_of l.place-items) l.v)
