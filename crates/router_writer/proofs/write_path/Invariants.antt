use Prim.Native.Nat.{◌-◌}
use lib.ListN.{length}
use Rattle.router_writer.specs.Runs.{Partly}
use Rattle.router_writer.proofs.write_path.Given as goal

abbrev pub invariant-loop-from : goal.invariant-loop-from
invariant-loop-from l = Partly l.dirs l.initial.out l.runs l.from l.out

abbrev pub decreases-loop-from : goal.decreases-loop-from
decreases-loop-from l = length l.dirs - l.from
