-- `raised` is the definition.
use mathlib.Core.Path.{refl}
use borrow.Author.Tests.{lt-ltb, le-ltb}
use Rattle.net_terminals.proofs.raised.Goals as goal

pub returns-then-n-lt255 : goal.returns-then-n-lt255
returns-then-n-lt255 c = rw (lt-ltb _ _ c.if-n-lt255.true) refl

pub returns-else-n-lt255 : goal.returns-else-n-lt255
returns-else-n-lt255 c = rw (le-ltb _ _ c.if-n-lt255.false) refl
