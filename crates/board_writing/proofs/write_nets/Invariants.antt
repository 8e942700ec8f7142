use Rattle.board_writing.specs.Words.{net_words}
use Rattle.board_writing.specs.Buffer.{Continues}
use lib.ListN.{length}
use mathlib.Core.Path.{◌≡◌}
use Prim.Native.Nat.{◌+◌, ◌≤◌}
use Rattle.board_writing.proofs.write_nets.Given as goal

abbrev pub invariant-loop-i : goal.invariant-loop-i
invariant-loop-i l =
    (l.at ≤ l.from + l.i) × (l.from + 64 ≤ length l.initial.out) × (length l.place-items ≡ 64)
    × Continues (net_words l.place-items l.i) l.initial.out l.out l.from l.at
