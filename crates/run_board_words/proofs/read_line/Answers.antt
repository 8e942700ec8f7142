-- The line of what is written back, or of the refusal.
use mathlib.Core.Path.{◌∙◌}
use Prim.Native.Nat.{ℕ}
use lib.ListN.{length-replicate}
use Rattle.run_board_words.specs.Laws.{refused-line, written_back}
use Rattle.run_board_words.proofs.read_line.Goals as goal

pub returns-in-Ok : goal.returns-in-Ok
returns-in-Ok c =
    let written-line = c.written_line in
    let write-board = c.write_board-answer in
    record {
      prefix_len = written-line.ensures.0;
      out_after = λ x P. written-line.ensures.1
          ∙ written_back write-board.result c.in-Ok.is (length-replicate {A = ℕ} 224 0) write-board.ensures x P;
    }

pub returns-in-Err : goal.returns-in-Err
returns-in-Err c = record {
  prefix_len = c.refused.ensures.0;
  out_after = λ x P. (rw (c.from.ensures, c.number.ensures, c.place.ensures) at c.refused.ensures.1) ∙ refused-line c.in-Err.refusal c.in-Err.is x P;
}
