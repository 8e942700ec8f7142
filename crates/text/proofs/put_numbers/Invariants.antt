-- The numbers so far stand behind each other, each in at most 21 bytes.
use Rattle.std.proofs.Common.{◌≡◌, ◌+◌, ◌*◌, ◌≤◌, length, take}
use mathlib.Core.List.{flat_map}
use Rattle.text.specs.Line.{spaced}
use Rattle.text.specs.Put.{Put}
use Rattle.text.proofs.put_numbers.Given as goal

abbrev pub invariant-loop-number : goal.invariant-loop-number
invariant-loop-number l = record {
  end_in_bounds : l.end ≤ l.at + 21 * l.number-index;
  out_len_unchanged : length l.out ≡ length l.initial.out;
  put : Put (flat_map spaced (take l.number-index l.numbers)) l.at l.initial.out l.end l.out;
}
