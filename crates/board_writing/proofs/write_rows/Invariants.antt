use Rattle.board_writing.specs.Words.{row_words}
use Rattle.call_rules.specs.Writing.{written_into}
use lib.ListN.{length}
use mathlib.Core.Path.{◌≡◌}
use Prim.Native.Nat.{◌≤◌}
use Rattle.board_writing.proofs.write_rows.Given as goal

abbrev pub invariant-loop-i : goal.invariant-loop-i
invariant-loop-i l = (31 ≤ length l.initial.out) × (l.out ≡ written_into l.initial.out (row_words l.fn.b.rows l.i))
