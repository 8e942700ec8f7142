use Rattle.std.proofs.Common.{◌≡◌, ◌*◌, ◌≤◌}
use Rattle.count.specs.Sum.{sum}
use Rattle.net.specs.View.{pairs_of}
use Rattle.cut.specs.Cut.{crossing}
use Rattle.wire_call.proofs.crossings_of.Given as goal

abbrev pub invariant-loop-i : goal.invariant-loop-i
invariant-loop-i g l = (l.sum ≤ 256 * l.i) × (l.sum ≡ sum l.i (λ i. crossing (g.x i) (pairs_of l.nets)))
