-- `add_all` goes through the lent nets: before each turn the nets from the next one on lead to what the whole list comes to.
use Rattle.std.proofs.Common.{◌≡◌, ◌∙◌, ap, not, length, arith}
use Rattle.session_answers.specs.declared.AddAllAnswer.{AddAllAnswer}
use Rattle.session.specs.declared.After.{After}
use Rattle.session.specs.Value.{with_net}
use Rattle.session.proofs.AllKept.{add_all_promise}
use Rattle.session.proofs.Turns.{Turn, turn-first, turn_refused, turn_last, turn-next}
use Rattle.session.proofs.Session.add_all.Goals as goal

pub loop-net-init : goal.loop-net-init
loop-net-init c =
    let first = c.none_added.ensures in (rw first.0 (turn-first c.args.self c.args.nets.now), first.1)

pub loop-net-preserved : goal.loop-net-preserved
unfolding with_net
loop-net-preserved c =
    let at = c.loop-net in (
      rw (c.counting-answer.ensures, c.add_sound-next.ensures)
          (turn-next c.args.self c.args.nets.now at.net-index (record { answer = at.answer; session = at.session }) _ (omega arith) at.invariant.0
          (c.is_err.ensures.negation ∙ ap not c.if-is_err.false)),
      at.invariant.1,
    )

pub returns-then-is_err : goal.returns-then-is_err
returns-then-is_err c =
    let at = c.loop-net in
    let a : After AddAllAnswer = record { answer = at.answer; session = at.session } in
    add_all_promise c.args.self c.args.nets.now a at.invariant.1
    (turn_refused c.args.self c.args.nets.now at.net-index a at.invariant.0 (c.is_err.ensures.negation ∙ ap not c.if-is_err.true))

pub returns-after-loop-net : goal.returns-after-loop-net
returns-after-loop-net c =
    let at = c.loop-net in
    let ns = c.args.nets.now in
    let a : After AddAllAnswer = record { answer = at.answer; session = at.session } in
    let end : at.net-index ≡ length ns = omega arith in
    let t : Turn c.args.self ns (length ns) a = rw end at at.invariant.0 in
    add_all_promise c.args.self ns a at.invariant.1 (turn_last c.args.self ns a t)
