-- What is refused first, or nothing.
use mathlib.Core.Path.{sym, ◌∙◌}
use Rattle.session.specs.View.{session_of}
use Rattle.draw_call.specs.Laws.{first-unsound, first-short, first_none}
use borrow.Author.Tests.{lt-ltb, le-ltb}
use Rattle.draw_call.proofs.ask_first.Goals as goal

pub returns-then-unsound : goal.returns-then-unsound
returns-then-unsound c = first-unsound (session_of c.args.s) c.args.room (sym c.sound-unsound.ensures.same ∙ c.if-unsound.true)

pub returns-then-short : goal.returns-then-short
returns-then-short c =
    first-short (session_of c.args.s) c.args.room (cc c.sound-unsound.ensures.same) (lt-ltb _ _ c.if-short.true)

pub returns : goal.returns
returns c =
    first_none (session_of c.args.s) c.args.room (sym c.sound-unsound.ensures.same ∙ c.if-unsound.false) (le-ltb _ _ c.if-short.false)
