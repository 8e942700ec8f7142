-- Definitions only: what is printed when a session is routed (document 01: "prints each routing word on a line, or "refused", the number and
-- the place numbers, parted by spaces (two numbers for 32 and 33, else one)"). Nothing is proved here.
use Rattle.std.specs.Prelude.{◌≡◌, List, ℕ, take}
use Rattle.std.proofs.Math.Option.{none}
use Rattle.text.specs.Hex.{hex_lines}
use Rattle.text.specs.Line.{refused_line}
use Rattle.board.specs.declared.Direction.{Direction}
use Rattle.words.specs.RoutingWord.{routing_words}
use Rattle.routing_rules.specs.Routing.{Routing}
use Rattle.session_rules.specs.Refusal.{Refusal}
use Rattle.session_rules.specs.Session.{Session, pairs}
use Rattle.call_rules.specs.Result.{Result, no, yes}
use Rattle.call_rules.specs.Shape.{routing_limit}
use Rattle.call_rules.specs.Route.{route_refused, WhyRefused}

abbrev pub refusal_text : Refusal → List ℕ
refusal_text r = refused_line r.number r.place

-- an answer and the buffer afterwards: the first words of it, or the refusal
abbrev pub answer_text : Result ℕ → (after : List ℕ) → List ℕ
answer_text (yes count) after = hex_lines (take count after)
answer_text (no r) after = refusal_text r

-- the text for a session that is routed into a buffer of 2,049 words, long enough for every session: the refusal, or the words of a routing
pub data RouteText (s : Session) : (text : List ℕ) → Type 0 where
  refused : {r : Refusal} → WhyRefused s routing_limit r → RouteText s (refusal_text r)
  given : (paths : List (List Direction)) → route_refused s routing_limit ≡ none → Routing s.block.board (pairs s.nets) paths
      → RouteText s (hex_lines (routing_words s.nets paths))
