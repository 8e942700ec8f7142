-- `odds_of` answers with the odd vertices where they are few, and names the first where they are too many.
use Rattle.std.proofs.Common.{sym, ◌∙◌}
use Rattle.net_places.proofs.NetsLaws.{pairs-of}
use Rattle.session.specs.View.{session_of}
use Rattle.session_laws.proofs.Exact.{sound_exact}
use Rattle.pairing_search.specs.Collect.{collected}
use Rattle.route_call.specs.AnswerLaws.{collects-of, odd-at, none_odd, even_few, odd_named}
use Rattle.route_call.proofs.odds_of.Goals as goal

pub returns-in-Some : goal.returns-in-Some
returns-in-Some c =
    let s = session_of c.args.s in let same = pairs-of c.args.s.nets in
    rw c.ok_or.ensures.value (odd_named s c.in-Some.v
    (record { sound = (sound_exact s).1 c.requires; first = odd-at s _ same _ (sym c.in-Some.is ∙ c.first_odd.ensures) })
    c.odd_vertices.result (collects-of s _ same _ (collected _ _ c.odd_vertices.ensures)))

pub returns-in-None : goal.returns-in-None
returns-in-None c =
    let s = session_of c.args.s in
    even_few s ((sound_exact s).1 c.requires) (none_odd s _ (pairs-of c.args.s.nets) (sym c.in-None.is ∙ c.first_odd.ensures)) _ c.no_odds.ensures
