-- `write_sound` writes the words of the board, its taken pins and the nets. There is room for them: 31 rows, 128 vertices with taken pins, 64 nets
-- and the end.
use native.Mathlib.Omega.{arith}
use Rattle.board_writing.specs.Laws.{all_written}
use Rattle.board_writing.specs.WordsLaws.{net_words_le}
use Rattle.board_block.specs.View.{taken_of}
use Rattle.session_pile.specs.Shift.{length_unmapped_by}
use Rattle.words.specs.BoardWord.{taken_word}
use lib.ListN.{length, length-map}
use mathlib.Core.Path.{◌≡◌}
use Prim.Native.Nat.{◌<◌}
use borrow.Author.Rules.{rules}
use Rattle.board_writing.proofs.write_sound.Goals as goal

pub write_nets-at-requires : goal.write_nets-at-requires
write_nets-at-requires c =
    let write-pins = c.write_pins-from in
    let s = c.args.s in
    omega (arith, write-pins.ensures.index, length-map (taken_of s.block.taken) taken_word)

pub bounds-out-at : goal.bounds-out-at
bounds-out-at c =
    let write-nets = c.write_nets-at in
    let write-pins = c.write_pins-from in
    let s = c.args.s in
    let l : length s.nets ≡ 64 = search (rules, length_unmapped_by, c.well_formed.0) in
    let g : write-nets.result < length write-nets.new.out =
    omega (
      arith,
      c.requires,
      c.from.ensures,
      write-pins.ensures.index,
      length-map (taken_of s.block.taken) taken_word,
      write-nets.ensures.index,
      net_words_le s.nets 64 (omega arith),
    ) in g

pub offset_bounds-out-at : goal.offset_bounds-out-at
offset_bounds-out-at c =
    let write-nets = c.write_nets-at in
    let s = c.args.s in
    let l : length s.nets ≡ 64 = search (rules, length_unmapped_by, c.well_formed.0) in
    let write-pins = c.write_pins-from in
    let g : write-nets.result < length write-nets.new.out =
    omega (
      arith,
      c.requires,
      c.from.ensures,
      write-pins.ensures.index,
      length-map (taken_of s.block.taken) taken_word,
      write-nets.ensures.index,
      net_words_le s.nets 64 (omega arith),
    ) in omega arith

pub overflow_add-result : goal.overflow_add-result
overflow_add-result c =
    let write-nets = c.write_nets-at in
    let s = c.args.s in
    let l : length s.nets ≡ 64 = search (rules, length_unmapped_by, c.well_formed.0) in
    let write-pins = c.write_pins-from in
    let g : write-nets.result < length write-nets.new.out =
    omega (
      arith,
      c.requires,
      c.from.ensures,
      write-pins.ensures.index,
      length-map (taken_of s.block.taken) taken_word,
      write-nets.ensures.index,
      net_words_le s.nets 64 (omega arith),
    ) in omega arith

pub returns : goal.returns
returns c =
    let write-nets = c.write_nets-at in
    let write-pins = c.write_pins-from in
    let s = c.args.s in
    let l : length s.nets ≡ 64 = search (rules, length_unmapped_by, c.well_formed.0) in
    let write-rows = c.write_rows in
    all_written s c.args.out.now write-rows.new.out write-pins.new.out write-nets.new.out
    c.from.result write-pins.result write-nets.result c.pack_end.result
    l c.requires.count_bound c.requires.taken_len_bound c.requires.board_limit_in_bounds
    c.from.ensures write-rows.ensures write-pins.ensures write-nets.ensures c.pack_end.ensures

pub overflow_cast-at : goal.overflow_cast-at
overflow_cast-at c =
    let s = c.args.s in
    let l : length s.nets ≡ 64 = search (rules, length_unmapped_by, c.well_formed.0) in
    omega (arith, c.write_nets-at.ensures.index, net_words_le s.nets 64 (omega arith))
