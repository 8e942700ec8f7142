-- The entry at the vertex's place is changed; outside the array nothing is.
use mathlib.Core.Path.{refl}
use borrow.Author.Tests.{lt-ltb, le-ltb}
use Rattle.net.specs.Grid.{changed_at}
use Rattle.board_block.proofs.put_taken.Goals as goal

pub returns-then-v-lt32-2 : goal.returns-then-v-lt32-2
unfolding changed_at
returns-then-v-lt32-2 c =
    let in-columns = c in
    rw (
      lt-ltb _ _ in-columns.if-v-lt32.true,
      lt-ltb _ _ in-columns.if-v-lt32-2.true,
      c.from.ensures,
      c.from-then-v-lt32-2.ensures,
    ) refl

pub returns-else-v-lt32-2 : goal.returns-else-v-lt32-2
unfolding changed_at
returns-else-v-lt32-2 c = rw (lt-ltb _ _ c.if-v-lt32.true, le-ltb _ _ c.if-v-lt32-2.false) refl

pub returns-else-v-lt32 : goal.returns-else-v-lt32
unfolding changed_at
returns-else-v-lt32 c = rw (le-ltb _ _ c.if-v-lt32.false) refl
