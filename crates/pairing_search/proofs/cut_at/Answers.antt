-- The columns come first.
use borrow.Author.Tests.{lt-ltb, le-ltb}
use Rattle.pairing_search.proofs.cut_at.Goals as goal

pub returns-then-i-lt31 : goal.returns-then-i-lt31
returns-then-i-lt31 c = simp (lt-ltb _ _ c.if-i-lt31.true)

pub returns-else-i-lt31 : goal.returns-else-i-lt31
returns-else-i-lt31 c = simp (le-ltb _ _ c.if-i-lt31.false)
