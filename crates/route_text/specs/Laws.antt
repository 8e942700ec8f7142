-- The text of what routing answers is the text for the session.
-- Assumes what routing promises.
use Rattle.std.specs.Prelude.{◌≡◌, refl, List, ℕ, length, take, drop}
use Rattle.std.proofs.Common.{ap, sym, subst, ◌∙◌, take_at}
use Rattle.std.proofs.Math.Path.{subst⁻¹}
use Rattle.text.specs.Hex.{hex_lines}
use Rattle.words.specs.RoutingWord.{routing_words}
use Rattle.session_rules.specs.Session.{Session}
use Rattle.call_rules.specs.Result.{Result}
use Rattle.call_rules.specs.Route as calls
use Rattle.call_rules.specs.Route.{route_refused, WhyRefused, Routes}
use Rattle.route_text.specs.Text.{answer_text, RouteText, refused, given}

pub routed_text : (s : Session) {before after : List ℕ} {a : Result ℕ} → length before ≡ 2049 → Routes s before a after
    → RouteText s (answer_text a after)
routed_text s l (calls.refused {r} e) = refused {r = r} (subst (λ (n : ℕ). WhyRefused s n r) l e)
routed_text s {before} {after} l (calls.given {count = n} e H) =
    let ws = routing_words s.nets H.paths in
    let t : take n after ≡ ws = rw (H.words, H.counted) (take_at ws (drop (length ws) before) (length ws) refl) in
    subst⁻¹ (RouteText s) (ap hex_lines t) (given H.paths (ap (route_refused s) (sym l) ∙ e) H.routing)
