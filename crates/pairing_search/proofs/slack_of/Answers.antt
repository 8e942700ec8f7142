-- `slack_of` fills in cut by cut what the nets leave.
use Rattle.std.proofs.Common.{◌≡◌, ◌+◌, ap, sym, ◌∙◌, arith}
use Rattle.board.specs.View.{board_of}
use Rattle.board.specs.ViewLaws.{height_of}
use Rattle.net.specs.View.{pairs_of}
use Rattle.cut.specs.Cut.{edges, crossing}
use Rattle.pairing_search.specs.Slack.{open_cut, filling-more, filling_done}
use Rattle.pairing_search.specs.View.{cut_at}
use Rattle.pairing_search.proofs.slack_of.Goals as goal

pub overflow_sub-left : goal.overflow_sub-left
overflow_sub-left c =
    let t = c.tally_of-tally in let x = c.cut_at.ensures in let i = c.loop-i.i in
    let b = board_of c.args.b in let ps = pairs_of c.args.nets in
    let edged : t.result.edges ≡ edges b (cut_at i) = t.ensures.edges_are ∙ ap (edges b) x in
    let crossed : t.result.nets ≡ crossing (cut_at i) ps = t.ensures.nets_are ∙ ap (λ y. crossing y ps) x in
    omega (arith, open_cut b ps c.requires.1 i (omega (arith, height_of c.args.b)))

pub loop-i-preserved : goal.loop-i-preserved
loop-i-preserved c =
    let t = c.tally_of-tally in let x = c.cut_at.ensures in let i = c.loop-i.i in
    let b = board_of c.args.b in let ps = pairs_of c.args.nets in
    let edged : t.result.edges ≡ edges b (cut_at i) = t.ensures.edges_are ∙ ap (edges b) x in
    let crossed : t.result.nets ≡ crossing (cut_at i) ps = t.ensures.nets_are ∙ ap (λ y. crossing y ps) x in
    let few = open_cut b ps c.requires.1 i (omega (arith, height_of c.args.b)) in
    filling-more b ps c.loop-i.left i _ t.result.edges t.result.nets c.loop-i.invariant c.from.ensures edged crossed (omega arith) (omega arith)

pub returns : goal.returns
returns c =
    let args = c.args in
    filling_done (board_of args.b) (pairs_of args.nets) c.loop-i.left c.loop-i.i (31 + args.b.count) c.loop-i.invariant
    (ap (λ n. 31 + n) (sym (height_of args.b))) c.loop-i-test.false
