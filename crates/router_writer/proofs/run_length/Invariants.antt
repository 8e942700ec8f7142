use Rattle.std.proofs.Common.{◌≡◌, ◌+◌, drop, get_or}
use Rattle.words.specs.RoutingWord.{direction, runs_of}
use Rattle.router_writer.specs.Written.{directions}
use Rattle.router_writer.specs.Steps.{steps}
use Rattle.router_writer.proofs.run_length.Given as goal

abbrev pub invariant-loop-n : goal.invariant-loop-n
invariant-loop-n l =
    runs_of (directions (drop l.from l.dirs)) ≡ steps (direction (get_or l.dirs l.from 0)) l.n (runs_of (directions (drop (l.from + l.n) l.dirs)))
