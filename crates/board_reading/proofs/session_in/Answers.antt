-- `session_in` is refused as the definition refuses, and else gives the session that the words give.
use Rattle.board_reading.proofs.PromiseLaws.{scan-refused, bent-refused, pin-refused, net-refused, session-read}
use Rattle.board_reading.specs.declared.ReadRefusal.TheVariants.{Words}
use Rattle.std.specs.Prelude.{Err}
use mathlib.Core.Path.{◌≡◌, sym, ◌∙◌}
use borrow.Author.Rules.{rules}
use Rattle.board_reading.proofs.session_in.Goals as goal

pub returns-in_err-scan : goal.returns-in_err-scan
returns-in_err-scan c =
    let e : c.from_residual.result ≡ Err (Words c.in_err-scan.field-0.0) = search rules in
    rw e (scan-refused c.args.words.now c.in_err-scan.field-0.0 c.in_err-scan.ensures)

pub returns-then-not-is_convex : goal.returns-then-not-is_convex
returns-then-not-is_convex c =
    bent-refused c.args.words.now c.in_ok-scan.scan c.in_ok-scan.ensures (sym c.is_convex.ensures.same ∙ search rules)

pub returns-in_err-taken : goal.returns-in_err-taken
returns-in_err-taken c =
    let e : c.from_residual-in_err-taken.result ≡ Err c.in_err-taken.field-0.0 = search rules in
    rw e (pin-refused c.args.words.now c.in_ok-scan.scan c.in_ok-scan.ensures (sym c.is_convex.ensures.same ∙ search rules)
    c.in_err-taken.field-0.0 c.in_err-taken.ensures)

pub returns-in_err-nets : goal.returns-in_err-nets
returns-in_err-nets c =
    let e : c.from_residual-in_err-nets.result ≡ Err c.in_err-nets.field-0.0 = search rules in
    rw e (net-refused c.args.words.now c.in_ok-scan.scan c.in_ok-scan.ensures (sym c.is_convex.ensures.same ∙ search rules)
    c.in_ok-taken.taken c.in_ok-taken.ensures c.in_err-nets.field-0.0 c.in_err-nets.ensures)

pub returns : goal.returns
returns c =
    rw c.with_places.ensures
    (session-read c.args.words.now c.in_ok-scan.scan c.in_ok-scan.ensures (sym c.is_convex.ensures.same ∙ search rules)
    c.in_ok-taken.taken c.in_ok-taken.ensures c.in_ok-nets.nets c.in_ok-nets.ensures c.fresh-fresh.result c.fresh-fresh.ensures)
