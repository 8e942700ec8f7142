-- `put_words` puts the taken pins of the words into an array, up to the first of which 38 is due.
use native.Mathlib.Omega.{arith}
use mathlib.Core.Path.{sym, ◌∙◌}
use Rattle.board.specs.View.{board_of}
use Rattle.board_reading.proofs.PinsLaws.{pinning-taken, pinning-other, pinning-refused, pinning-end}
use Rattle.board_reading.proofs.put_words.Goals.{in-Taken+else-over_taken, in_default}
use Rattle.board_reading.proofs.put_words.Goals as goal

pub returns-then-over_taken : goal.returns-then-over_taken
returns-then-over_taken c =
    pinning-refused c.args.book (board_of c.args.b) c.args.words.now c.loop-i.i c.loop-i.taken c.loop-i.invariant (omega arith) c.in-Taken.pins
    (sym c.board_word.ensures ∙ c.in-Taken.is) (sym c.over_taken.ensures ∙ c.if-over_taken.true)

pub loop-i-preserved : goal.loop-i-preserved
loop-i-preserved c =
    let loop = c.loop-i in
    elim c.match-board_word.branch [
      | in-Taken+else-over_taken w ↦
          let put = w.taken-is ∙ w.put_taken.ensures in
          rw put
          (pinning-taken c.args.book (board_of c.args.b) c.args.words.now loop.i loop.taken loop.invariant (omega arith) w.in-Taken.pins
          (sym c.board_word.ensures ∙ w.in-Taken.is) (sym w.over_taken.ensures ∙ w.if-over_taken.false))
      | in_default w ↦
          rw w.taken-is
          (pinning-other c.args.book (board_of c.args.b) c.args.words.now loop.i loop.taken loop.invariant (omega arith)
          (λ p e. w.in_default.not-Taken p (c.board_word.ensures ∙ e)))
    ]

pub returns : goal.returns
returns c =
    pinning-end c.args.book (board_of c.args.b) c.args.words.now c.loop-i.i c.loop-i.taken c.loop-i.invariant (omega arith)
