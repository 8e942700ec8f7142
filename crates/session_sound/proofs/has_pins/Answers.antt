-- `has_pins` compares the terminals that are counted at v with its pins.
use Rattle.std.proofs.Common.{refl, ◌∙◌, lt-ltb, le-ltb}
use Rattle.board.specs.View.{board_of}
use Rattle.board_block.proofs.ViewLaws.{left_pins}
use Rattle.session_sound.specs.Room.{room_at}
use Rattle.session_sound.proofs.has_pins.Goals as goal

pub returns-then-v-lt32-2 : goal.returns-then-v-lt32-2
unfolding room_at
returns-then-v-lt32-2 c =
    let b = c.args.b.now in
    let line = c.if-v-lt32.true in
    let column = c.if-v-lt32-2.true in
    rw (
      lt-ltb _ _ line,
      lt-ltb _ _ column,
      c.pins_left.ensures ∙ left_pins b.book (board_of b.board) b.taken c.args.v line column,
      c.from.ensures,
      c.from-then-v-lt32-2.ensures,
    ) refl

pub returns-else-v-lt32-2 : goal.returns-else-v-lt32-2
unfolding room_at
returns-else-v-lt32-2 c = rw (lt-ltb _ _ c.if-v-lt32.true, le-ltb _ _ c.if-v-lt32-2.false) refl

pub returns-else-v-lt32 : goal.returns-else-v-lt32
unfolding room_at
returns-else-v-lt32 c = rw (le-ltb _ _ c.if-v-lt32.false) refl
