-- `write_board` answers and writes as the definition lays down.
use native.Mathlib.Omega.{arith}
use Rattle.board_writing.specs.Laws.{unsound_write, short_write, whole_write}
use Rattle.session.specs.View.{session_of}
use Rattle.session_laws.proofs.Few.{few_taken}
use Rattle.board.specs.ViewLaws.{height_of}
use mathlib.Core.Path.{sym, ◌∙◌}
use Rattle.board_writing.proofs.write_board.Goals as goal

pub returns-then-not-sound : goal.returns-then-not-sound
returns-then-not-sound c =
    let sound = c.sound in
    let args = c.args in
    unsound_write (session_of args.s) args.out.now (sym sound.ensures.same ∙ c.if-not-sound.true)

pub returns-then-out-lt-BOARD_WORDS : goal.returns-then-out-lt-BOARD_WORDS
returns-then-out-lt-BOARD_WORDS c =
    let if1 = c.if-not-sound in
    let sound = c.sound in
    let args = c.args in
    short_write (session_of args.s) args.out.now (sym sound.ensures.same ∙ if1.false) (omega arith)

pub write_sound-requires : goal.write_sound-requires
write_sound-requires c =
    let if1 = c.if-not-sound in
    let sound = c.sound in
    let args = c.args in
    let h = sound.ensures.exact.0 if1.false in record {
      count_bound = omega (arith, height_of args.s.block.board, h.within.few);
      taken_len_bound = few_taken (session_of args.s).block h.within h.convex h.taken;
      board_limit_in_bounds = omega arith;
    }

pub returns : goal.returns
returns c =
    let write-sound = c.write_sound in
    let if1 = c.if-not-sound in
    let sound = c.sound in
    let args = c.args in
    whole_write (session_of args.s) args.out.now _ write-sound.result (sym sound.ensures.same ∙ if1.false)
    (omega arith) write-sound.ensures
