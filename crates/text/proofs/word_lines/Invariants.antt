-- The words so far stand on a line each, of nine bytes.
use Rattle.std.proofs.Common.{◌≡◌, ◌*◌, length, take}
use mathlib.Core.List.{flat_map}
use Rattle.text.specs.Hex.{hex_line}
use Rattle.text.specs.Put.{Put}
use Rattle.text.proofs.word_lines.Given as goal

abbrev pub invariant-loop-word : goal.invariant-loop-word
invariant-loop-word l = record {
  end_is : l.end ≡ 9 * l.word-index;
  out_len_unchanged : length l.out ≡ length l.initial.out;
  put : Put (flat_map hex_line (take l.word-index l.first)) 0 l.initial.out l.end l.out;
}
