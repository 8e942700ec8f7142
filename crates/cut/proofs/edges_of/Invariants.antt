use Rattle.cut.specs.Tally.{cut_edge}
use Rattle.board.specs.View.{board_of}
use Rattle.count.specs.Sum.{count}
use mathlib.Core.Path.{◌≡◌}
use Prim.Native.Nat.{◌-◌, ◌≤◌}
use Rattle.cut.proofs.edges_of.Given as goal

abbrev pub invariant-loop-k : goal.invariant-loop-k
invariant-loop-k l =
    (l.k ≤ l.end) × (l.end ≤ 32) × (l.n ≡ count l.k (cut_edge (board_of l.b) l.x))

abbrev pub decreases-loop-k : goal.decreases-loop-k
decreases-loop-k l = l.end - l.k
