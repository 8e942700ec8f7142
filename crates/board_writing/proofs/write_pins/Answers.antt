-- `write_pins` writes the words of the taken pins. The invariant: there is room for the words of the places from i on, and once they are written all
-- are.
use native.Mathlib.Omega.{arith}
use Rattle.board_writing.specs.Words.{pin_word, pin_words_from}
use Rattle.board_writing.specs.WordsLaws.{pin_words_next, pin_words_none}
use Rattle.board_writing.specs.BufferLaws.{remains_next, remains_none}
use Rattle.board_block.specs.View.{taken_of}
use Rattle.words.specs.BoardWord.{taken_word}
use lib.ListN.{length, get_or, length-append, length-map}
use mathlib.Core.Path.{◌≡◌, ap}
use mathlib.Core.List.{map}
use Prim.Native.Nat.{◌+◌}
use borrow.Author.Rules.{rules}
use Rattle.board_writing.proofs.write_pins.Goals as goal

pub loop-place-init : goal.loop-place-init
unfolding pin_words_from
loop-place-init c = (
  search rules,
  omega (arith, c.requires, length-map (taken_of c.args.pins) taken_word),
  λ after r k. k,
)

pub write_pin-at-requires : goal.write_pin-at-requires
write_pin-at-requires c =
    let at = c.loop-place in
    let a = c.args.pins in record {
      place_bound = omega arith;
      count_in_bounds = omega (
        arith,
        ap length (pin_words_next a at.place (omega arith)),
        length-append (pin_word at.place (get_or a at.place 0)) (pin_words_from a (at.place + 1)),
        at.invariant.1,
      );
    }

pub loop-place-preserved : goal.loop-place-preserved
loop-place-preserved c =
    let write-pin = c.write_pin-at in
    let at = c.loop-place in
    let args = c.args in
    let a = args.pins in let this = pin_word at.place (get_or a at.place 0) in let rest = pin_words_from a (at.place + 1) in
    let e = pin_words_next a at.place (omega arith) in (
      at.invariant.0,
      omega (arith, ap length e, length-append this rest, at.invariant.1, write-pin.ensures.index, write-pin.ensures.size),
      remains_next this rest (map taken_word (taken_of a)) args.out.now at.out _ args.from at.at _ (rw e at at.invariant.2)
          write-pin.ensures,
    )

pub returns : goal.returns
returns c =
    let at = c.loop-place in
    let args = c.args in
    let e : at.place ≡ length args.pins = omega (arith, at.invariant.0) in
    remains_none (map taken_word (taken_of args.pins)) args.out.now at.out args.from at.at
    (rw (e, pin_words_none args.pins) at at.invariant.2)
