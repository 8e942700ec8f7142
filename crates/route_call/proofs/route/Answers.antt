-- `route` answers as the definition lays down.
use Rattle.std.proofs.Common.{◌≡◌, sym, ◌∙◌, Err, None, rules, arith}
use Rattle.std.specs.Option.{ok_or}
use Rattle.route_call.specs.declared.RouteRefusal.TheVariants.{NoRouting}
use Rattle.board.specs.ViewLaws.{height_of}
use Rattle.net_places.proofs.NetsLaws.{pairs-of}
use Rattle.session.specs.View.{session_of}
use Rattle.route_call.specs.AnswerLaws.{
  overfull-at,
  none_overfull,
  few-of,
  roomy_of,
  helps-of,
  found-helped,
  found-none-exists,
  route-unsound,
  route-short,
  route-odd,
  route-overfull,
  route-given,
  route-none,
}
use Rattle.route_call.proofs.route.Goals as goal

pub returns-then-not-sound : goal.returns-then-not-sound
returns-then-not-sound c = route-unsound (session_of c.args.s) _ (sym c.sound.ensures.same ∙ c.if-not-sound.true)

pub returns-then-out-word_limit : goal.returns-then-out-word_limit
returns-then-out-word_limit c =
    route-short (session_of c.args.s) _ (sym c.sound.ensures.same ∙ c.if-not-sound.false) (rw c.word_limit.ensures at c.if-out-word_limit.true)

pub returns-in_err-odds : goal.returns-in_err-odds
returns-in_err-odds c =
    let up : c.from_residual.result ≡ Err c.in_err-odds.field-0.0 = search rules in
    rw up (route-odd (session_of c.args.s) _ c.in_err-odds.field-0.0 c.in_err-odds.ensures (rw c.word_limit.ensures at c.if-out-word_limit.false))

pub returns-in-Some : goal.returns-in-Some
returns-in-Some c =
    let s = session_of c.args.s in
    route-overfull s _ c.in_ok-odds.odds c.in_ok-odds.ensures (rw c.word_limit.ensures at c.if-out-word_limit.false) _
    (overfull-at s _ (pairs-of c.args.s.nets) _ (sym c.in-Some.is ∙ c.first_overfull.ensures))

pub helpers_of-requires-clause-count_bound : goal.helpers_of-requires-clause-count_bound
helpers_of-requires-clause-count_bound c =
    let s = session_of c.args.s in let W = (c.sound.ensures.exact.0 c.if-not-sound.false).within in (
      omega (arith, height_of c.args.s.block.board, W.few),
      roomy_of s _ (pairs-of c.args.s.nets) (none_overfull s _ (pairs-of c.args.s.nets) (sym c.in_default.is ∙ c.first_overfull.ensures)),
    )

pub helpers_of-requires-clause-few : goal.helpers_of-requires-clause-few
helpers_of-requires-clause-few c = few-of (session_of c.args.s) _ (pairs-of c.args.s.nets) c.in_ok-odds.odds c.in_ok-odds.ensures.few

pub returns-in_err-helpers : goal.returns-in_err-helpers
returns-in_err-helpers c =
    let s = session_of c.args.s in let same = pairs-of c.args.s.nets in
    let none_found : c.helpers_of.result ≡ None = c.in_err-helpers.ensures.ok_part in
    let why : Err c.in_err-helpers.field-0.0 ≡ ok_or c.helpers_of.result NoRouting = c.in_err-helpers.ensures.value in
    let up : c.from_residual-in_err-helpers.result ≡ Err c.in_err-helpers.field-0.0 = search rules in
    let named : c.in_err-helpers.field-0.0 ≡ NoRouting = let e = rw none_found at why in cc in
    rw (up, named) (route-none s _ c.in_ok-odds.odds c.in_ok-odds.ensures (rw c.word_limit.ensures at c.if-out-word_limit.false)
    (none_overfull s _ same (sym c.in_default.is ∙ c.first_overfull.ensures))
    (found-none-exists s c.in_ok-odds.ensures.sound (rw none_found at (helps-of s _ same _ c.helpers_of.ensures))))

pub wire-requires-clause-helped : goal.wire-requires-clause-helped
wire-requires-clause-helped c =
    let s = session_of c.args.s in
    found-helped s c.in_ok-odds.ensures.sound c.in_ok-helpers.helpers
    (rw c.in_ok-helpers.ensures.ok_part at (helps-of s _ (pairs-of c.args.s.nets) _ c.helpers_of.ensures))

pub returns : goal.returns
returns c =
    let s = session_of c.args.s in
    route-given s _ c.in_ok-odds.odds c.in_ok-odds.ensures (rw c.word_limit.ensures at c.if-out-word_limit.false)
    (none_overfull s _ (pairs-of c.args.s.nets) (sym c.in_default.is ∙ c.first_overfull.ensures)) c.wire.ensures
