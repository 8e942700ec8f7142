use Rattle.board_writing.specs.Words.{pin_words_from}
use Rattle.board_writing.specs.Buffer.{Remains}
use Rattle.board_block.specs.View.{taken_of}
use Rattle.words.specs.BoardWord.{taken_word}
use lib.ListN.{length}
use mathlib.Core.Path.{◌≡◌}
use mathlib.Core.List.{map}
use Prim.Native.Nat.{◌+◌, ◌≤◌}
use Rattle.board_writing.proofs.write_pins.Given as goal

abbrev pub invariant-loop-place : goal.invariant-loop-place
invariant-loop-place l =
    (length l.count-items ≡ 1024) × (l.at + length (pin_words_from l.count-items l.place) ≤ length l.out)
    × Remains (pin_words_from l.count-items l.place) (map taken_word (taken_of l.count-items)) l.initial.out l.out l.from l.at
