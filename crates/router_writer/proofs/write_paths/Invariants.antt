use Rattle.router_notes.specs.Limits.{pair_limit}
use Rattle.router_trace.specs.Traces.{path_of}
use Rattle.router_writer.specs.Through.{Through}
use Rattle.router_writer.proofs.write_paths.Given as goal

abbrev pub invariant-loop-i : goal.invariant-loop-i
invariant-loop-i l = Through (path_of l.notes pair_limit) l.place-items l.initial.out l.at l.k l.i l.out
