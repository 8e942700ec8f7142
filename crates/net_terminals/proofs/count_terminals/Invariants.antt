use mathlib.Core.Path.{◌≡◌}
use lib.ListN.{length}
use Rattle.net_terminals.specs.Counting.{Counting}
use Rattle.net_terminals.proofs.count_terminals.Given as goal

abbrev pub invariant-loop-place : goal.invariant-loop-place
invariant-loop-place l = (length l.place-items ≡ 64) × Counting l.place-items l.place-index l.counts
