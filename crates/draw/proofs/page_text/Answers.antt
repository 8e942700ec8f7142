-- The board up to its end word, and the list behind it.
use mathlib.Core.Path.{sym, ◌∙◌}
use lib.Seq.{length-take-le}
use Rattle.draw.specs.Laws.{parts_text}
use Rattle.draw.proofs.page_text.Goals as goal

pub slice_bounds-board_text-end : goal.slice_bounds-board_text-end
slice_bounds-board_text-end c = sym (length-take-le _ _ c.board_end-end.ensures.upper_bound)

pub returns : goal.returns
returns c =
    let board-text = c.board_text in
    let board-end = c.board_end-end in
    let args = c.args in
    (board-text.ensures.0, board-text.ensures.1 ∙ parts_text args.bytes.now board-end.result board-end.ensures.value)
