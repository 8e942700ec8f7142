-- Definitions only: what the call `route` answers (document 01, "Routing", refusals 20 and 31 to 33; document 02, §4, refusals 32 and 34; §11,
-- refusal 31). Nothing is proved here.
use Rattle.std.specs.Prelude.{◌≡◌, not, cond, ℕ, ◌/◌, ltb, length}
use mathlib.Core.List.{List, [], ◌∷◌, head?}
use Rattle.std.proofs.Math.Option.{Option, none, some}
use Rattle.board.specs.declared.Vertex.{Vertex}
use Rattle.board.specs.declared.Direction.{Direction}
use Rattle.cut.specs.Cut.{overfull_cuts}
use Rattle.cut.specs.Odd.{odd_vertices}
use Rattle.cut.specs.declared.Cut.{Cut}
use Rattle.cut.specs.declared.Cut.TheVariants.{Row, Column}
use Rattle.routing_rules.specs.Routing.{Routing}
use Rattle.session_rules.specs.Refusal.{Refusal, refusal, line, first_refusal}
use Rattle.session_rules.specs.Session.{Session, pairs}
use Rattle.session_rules.specs.Sound.{sound?}
use Rattle.words.specs.Bytes.{bytes_of}
use Rattle.words.specs.RoutingWord.{routing_words}
use Rattle.call_rules.specs.Result.{Result, no, yes}
use Rattle.call_rules.specs.Wire.{word_limit}
use Rattle.call_rules.specs.Writing.{written_into}

-- the least buffer for routing a session, in words: "The buffer that routing demands becomes that word limit instead of 2,049" (02, §11)
abbrev pub route_room : Session → ℕ
route_room s = word_limit s

-- "We want boards of up to 12 odd vertices routed." (02, §4)
abbrev pub odd_limit : ℕ
odd_limit = 12

-- 32 "now only where more than 12 vertices are odd, naming the first": all the odd vertices where they are too many, else none
abbrev pub too_many : List Vertex → List Vertex
too_many vs = cond (ltb odd_limit (length vs)) vs []

-- 32: place "line, column" of the first odd vertex
abbrev pub odd_refusal : Vertex → Refusal
odd_refusal v = record { number = 32; place = v.line ∷ (v.column ∷ []) }

-- 33: place "0 row or 1 column, index" of the first overfull cut
abbrev pub overfull_refusal : Cut → Refusal
overfull_refusal (Row i) = record { number = 33; place = 0 ∷ (i ∷ []) }
overfull_refusal (Column j) = record { number = 33; place = 1 ∷ (j ∷ []) }

-- the first of the refusals, one after the other
abbrev pub or_else : Option Refusal → Option Refusal → Option Refusal
or_else none y = y
or_else (some r) y = some r

abbrev pub odd_refused : Option Vertex → Option Refusal
odd_refused none = none
odd_refused (some v) = some (odd_refusal v)

abbrev pub overfull_refused : Option Cut → Option Refusal
overfull_refused none = none
overfull_refused (some x) = some (overfull_refusal x)

-- 20, then 31, 32, 33, for a buffer of so many words
unfoldable pub route_refused : Session → (room : ℕ) → Option Refusal
route_refused s room =
    or_else (first_refusal (line (not (sound? s)) 20 0 ∷ line (ltb room (route_room s)) 31 0 ∷ []))
    (or_else (odd_refused (head? (too_many (odd_vertices s.block.board (pairs s.nets)))))
    (overfull_refused (head? (overfull_cuts s.block.board (pairs s.nets)))))

-- "no routing exists"
abbrev pub NoRouting : Session → Type 0
NoRouting s = (paths : List (List Direction)) → Routing s.block.board (pairs s.nets) paths → ⊥

-- Why routing is refused. By the conditions above: 20, 31, 32, 33. Else "34 after 33, place 0, where no cut is overfull and no routing exists"
-- (02, §4); that no cut is overfull is part of passing 33.
pub data WhyRefused (s : Session) (room : ℕ) : Refusal → Type 0 where
  by_line : {r : Refusal} → route_refused s room ≡ some r → WhyRefused s room r
  none_exists : route_refused s room ≡ none → NoRouting s → WhyRefused s room (refusal 34 0)

-- "A routing is handed back as its routing words at the start of the buffer, as many as that answer."
-- "Which routing is handed back is left open; that it is one is not."
pub record HandsBack (s : Session) (before after : List ℕ) (count : ℕ) : Type 0 where
  pub paths : List (List Direction)
  pub routing : Routing s.block.board (pairs s.nets) paths
  pub words : after ≡ written_into before (routing_words s.nets paths)
  pub counted : count ≡ length (routing_words s.nets paths)

-- The whole call, on a session and a lent buffer: what it answers and the buffer afterwards.
-- Refused: the refusal, and the buffer as it was. Else the count of the words of a routing, and the buffer with them at its start.
pub data Routes (s : Session) (before : List ℕ) : Result ℕ → (after : List ℕ) → Type 0 where
  refused : {r : Refusal} → WhyRefused s (length before) r → Routes s before (no r) before
  given : {after : List ℕ} {count : ℕ} → route_refused s (length before) ≡ none → HandsBack s before after count → Routes s before (yes count) after

-- ── on a buffer of bytes: "A buffer of bytes to be written counts as its whole groups of four." ──
pub record HandsBackBytes (s : Session) (before after : List ℕ) (count : ℕ) : Type 0 where
  pub paths : List (List Direction)
  pub routing : Routing s.block.board (pairs s.nets) paths
  pub bytes : after ≡ written_into before (bytes_of (routing_words s.nets paths))
  pub counted : count ≡ length (routing_words s.nets paths)

pub data RoutesBytes (s : Session) (before : List ℕ) : Result ℕ → (after : List ℕ) → Type 0 where
  refused : {r : Refusal} → WhyRefused s (length before / 4) r → RoutesBytes s before (no r) before
  given : {after : List ℕ} {count : ℕ} → route_refused s (length before / 4) ≡ none → HandsBackBytes s before after count
      → RoutesBytes s before (yes count) after
