-- `add_words` adds the nets of the words as the definition does.
use native.Mathlib.Omega.{arith}
use borrow.Author.Rules.{rules}
use mathlib.Core.Path.{◌≡◌, ap, sym, ◌∙◌}
use Rattle.std.specs.Prelude.{Err}
use Rattle.board_block.specs.View.{block_of}
use Rattle.board_scan.proofs.Faulty.{faulty}
use Rattle.board_reading.specs.Refused.{net_number}
use Rattle.board_reading.specs.Adding.{net_answer}
use Rattle.board_reading.specs.declared.ReadRefusal.TheVariants.{Net}
use Rattle.board_reading.proofs.AddingLaws.{fault-none, none-number, adding_start, adding-net, adding-other, adding-refused, adding-end}
use Rattle.board_reading.proofs.add_words.Goals.{in-Net+in_ok-map_err, in_default}
use Rattle.board_reading.proofs.add_words.Goals as goal

pub loop-i-init : goal.loop-i-init
loop-i-init c = adding_start (block_of c.args.b) c.args.words.now

pub returns-in_err-map_err : goal.returns-in_err-map_err
returns-in_err-map_err c =
    let loop = c.loop-i in
    let net = c.in-Net.net in
    let k = faulty _ _ c.check_net.result c.in_err-map_err.ensures.cases c.in_err-map_err.ensures.variant in
    let told : c.in_err-map_err.field-0.0 ≡ Net k.0 loop.i-counter = search rules in
    let e : c.from_residual.result ≡ Err (Net k.0 loop.i-counter) = search rules in
    rw e
    (adding-refused (block_of c.args.b) c.args.words.now loop.i-counter loop.nets loop.invariant (omega arith) net
    (sym c.board_word.ensures ∙ c.in-Net.is) (net_number k.0) (sym (ap net_answer k.1) ∙ c.check_net.ensures))

pub loop-i-preserved : goal.loop-i-preserved
loop-i-preserved c =
    let loop = c.loop-i in
    elim c.match-board_word.branch [
      | in-Net+in_ok-map_err w ↦
          let stored = w.nets-is ∙ w.stored-stored.ensures in
          let net = w.in-Net.net in
          rw stored
          (adding-net (block_of c.args.b) c.args.words.now loop.i-counter loop.nets loop.invariant (omega arith) net
          (sym c.board_word.ensures ∙ w.in-Net.is)
          (none-number _ (fault-none w.check_net.result (sym w.in_ok-map_err.ensures.variant) ∙ w.check_net.ensures)))
      | in_default w ↦
          rw w.nets-is
          (adding-other (block_of c.args.b) c.args.words.now loop.i-counter loop.nets loop.invariant (omega arith)
          (λ p e. w.in_default.not-Net p (c.board_word.ensures ∙ e)))
    ]

pub returns : goal.returns
returns c =
    (adding-end (block_of c.args.b) c.args.words.now c.loop-i.i-counter c.loop-i.nets c.loop-i.invariant (omega arith), c.loop-i.invariant.size)
