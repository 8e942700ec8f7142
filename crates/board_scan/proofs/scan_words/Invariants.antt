use mathlib.Core.Path.{◌≡◌}
use mathlib.Core.Bool.{false}
use Rattle.call_rules.specs.Reading.{bad_length}
use Rattle.board_scan.specs.Loop.{Here}
use Rattle.board_scan.proofs.scan_words.Given as goal

abbrev pub invariant-loop-i : goal.invariant-loop-i
invariant-loop-i l = (bad_length l.words ≡ false) × Here l.words l.i-counter l.scan
