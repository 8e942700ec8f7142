-- `write_rows` writes the words of the rows.
use native.Mathlib.Omega.{arith}
use Rattle.board_writing.specs.Words.{row_words}
use Rattle.board_writing.specs.WordsLaws.{row_words_length, row_words_more}
use Rattle.call_rules.proofs.WritingLaws.{store_next}
use mathlib.Core.Path.{◌≡◌, refl}
use Rattle.std.proofs.Common.{length-take, get_or-take, ◌<◌, length, rules}
use Rattle.board.specs.Board.{no_row}
use Rattle.board_writing.proofs.write_rows.Goals as goal

pub loop-i-init : goal.loop-i-init
unfolding row_words
loop-i-init c = (c.requires.in_bounds, refl)

pub bounds-out-i : goal.bounds-out-i
bounds-out-i c = omega (arith, length-take c.from.result c.args.b.rows, c.from.ensures, c.requires.count_bound, c.requires.in_bounds)

pub loop-i-preserved : goal.loop-i-preserved
loop-i-preserved c =
    let rs = c.args.b.rows in
    let at = c.loop-i in
    let i : at.i < c.from.result = omega (arith, length-take c.from.result rs) in
    let row = get_or-take c.from.result rs at.i no_row i in (
      at.invariant.0,
      rw (row_words_more rs at.i, c.pack_row.ensures, row)
          (store_next (row_words rs at.i) at.out c.args.out.now at.i _ (row_words_length rs at.i) (omega arith) at.invariant.1),
    )

pub returns : goal.returns
returns c =
    let l : length c.args.b.rows ≡ 31 = search rules in
    let e : c.loop-i.i ≡ c.args.b.count = omega (arith, length-take c.from.result c.args.b.rows, c.from.ensures, c.requires.count_bound) in
    rw e at c.loop-i.invariant.1
