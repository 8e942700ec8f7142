-- `scan_words` takes the words as the definition does.
use mathlib.Core.Path.{◌≡◌}
use native.Mathlib.Omega.{arith}
use borrow.Author.Rules.{rules}
use lib.ListN.{length}
use Rattle.board_scan.specs.Loop.{here_start, here-more, promise-fault, promise-open, promise-taken}
use Rattle.std.specs.Prelude.{Err}
use Rattle.board_scan.specs.declared.ScanRefusal.TheVariants.{Word}
use Rattle.board_scan.proofs.Faulty.{faulty}
use Rattle.board_scan.proofs.scan_words.Goals as goal

pub loop-i-init : goal.loop-i-init
loop-i-init c = (search rules, rw c.before_words-scan.ensures (here_start c.args.words.now))

pub returns-in_err-scan : goal.returns-in_err-scan
returns-in_err-scan c =
    let k = faulty _ _ c.with_word-next.result c.in_err-scan.ensures.cases c.in_err-scan.ensures.variant in
    let told : c.in_err-scan.field-0.0 ≡ Word k.0 c.loop-i.i-counter = search rules in
    let e : c.from_residual.result ≡ Err (Word k.0 c.loop-i.i-counter) = search rules in
    let loop = c.loop-i in
    rw e (promise-fault c.args.words.now loop.invariant.0 loop.i-counter loop.scan k.0 (omega arith) loop.invariant.1 (search rules))

pub loop-i-preserved : goal.loop-i-preserved
loop-i-preserved c =
    let loop = c.loop-i in
    (loop.invariant.0, here-more c.args.words.now loop.i-counter loop.scan (omega arith) loop.invariant.1 c.in_ok-scan.scan (search rules))

pub returns-then-not-scan : goal.returns-then-not-scan
returns-then-not-scan c =
    let f : c.loop-i.i-counter ≡ length c.args.words.now = omega arith in
    promise-open c.args.words.now c.loop-i.invariant.0 c.loop-i.scan (rw f at c.loop-i.invariant.1) (search rules)

pub returns : goal.returns
returns c =
    let f : c.loop-i.i-counter ≡ length c.args.words.now = omega arith in
    promise-taken c.args.words.now c.loop-i.invariant.0 c.loop-i.scan (rw f at c.loop-i.invariant.1) (search rules)
