-- Definitions only: demand 3, over a list of calls with what each handed back; for routing as document 02, §4 and §11 have it. Nothing is proved
-- here: Routing has `demand_3`.
use Rattle.std.specs.Prelude.{◌≡◌, List, ◌↔◌, ◌⊎◌, ℕ, ◌/◌, ◌≤◌, length}
use Rattle.board.specs.Board.{IsVertex}
use Rattle.board.specs.declared.Vertex.{Vertex}
use Rattle.cut.specs.Cut.{Overfull}
use Rattle.cut.specs.Odd.{odd_vertices}
use Rattle.cut.specs.Order.{IsCut, Even, FirstOverfull}
use Rattle.cut.specs.declared.Cut.{Cut}
use Rattle.routing_rules.specs.Routing.{Routable}
use Rattle.session_rules.specs.Refusal.{Refusal, refusal}
use Rattle.session_rules.specs.Session.{Session, pairs}
use Rattle.session_rules.specs.Machine.{after, answers}
use Rattle.session_rules.specs.Sound.{bare}
use Rattle.session.specs.declared.Session as code
use Rattle.session.specs.View.{session_of}
use Rattle.call_rules.specs.Result.{Result, no, yes}
use Rattle.call_rules.specs.Shape.{routing_limit}
use Rattle.call_rules.specs.Route.{route_room, odd_limit, overfull_refusal, HandsBack, HandsBackBytes, Routes, RoutesBytes}
use Rattle.route_call.specs.Answers.{RouteAnswer, route_answer}
use Rattle.session_history.specs.Made.{Made, changed, routed, routed_bytes, last, calls_of, answers_of, Everywhere}

-- "boards of up to 12 odd vertices" (document 02, §4)
abbrev pub FewOdd : Session → Type 0
FewOdd m = length (odd_vertices m.block.board (pairs m.nets)) ≤ odd_limit

-- no row or column is crossed by more nets than it has edges
abbrev pub NoCutOverfull : Session → Type 0
NoCutOverfull m = (x : Cut) → IsCut m.block.board x → Overfull m.block.board (pairs m.nets) x → ⊥

-- "names the first row or column crossed by more nets than edges"
abbrev pub NamesCut : Session → Result ℕ → Type 0
NamesCut m answer = (x : Cut) × (answer ≡ no (overfull_refusal x)) × FirstOverfull m.block.board (pairs m.nets) x

-- what a routing call answered, where HandedBack n says that it handed back a routing of n words
pub record Rightly (m : Session) (answer : Result ℕ) (HandedBack : ℕ → Type 0) : Type 0 where
  -- "a routing of all the nets that the machine then holds is handed back exactly when pairwise edge-disjoint paths joining them exist"
  pub exactly : ((n : ℕ) × (answer ≡ yes n) × HandedBack n) ↔ Routable m.block.board (pairs m.nets)
  -- "Where none exist, that call names the first row or column crossed by more nets than edges", or gives 34 where there is none (02, §4)
  pub named : (Routable m.block.board (pairs m.nets) → ⊥)
      → NamesCut m answer ⊎ ((answer ≡ no (refusal 34 0)) × NoCutOverfull m)

-- "Wherever routing is called .. with" so many "words or more", m being the machine's session then: the demand has 2,049 for the room of every
-- session, document 02, §11, the word limit of m. `FewOdd` stands where the demand has "while every vertex's degree plus its terminals is even"
abbrev pub RoutedRightly : (room : Session → ℕ) → Session → Made → Type 0
RoutedRightly room m (routed before r after) = room m ≤ length before → FewOdd m → Rightly m (route_answer r) (HandsBack m before after)
RoutedRightly room m (routed_bytes before r after) = room m ≤ length before / 4 → FewOdd m → Rightly m (route_answer r) (HandsBackBytes m before after)
RoutedRightly room m (changed c a t) = Unit {0}

-- each routing call, whatever its buffer and the board's odd vertices, was made on m: its answer and buffer are those of m's board and nets
abbrev pub Concerns : Session → Made → Type 0
Concerns m (routed before r after) = Routes m before (route_answer r) after
Concerns m (routed_bytes before r after) = RoutesBytes m before (route_answer r) after
Concerns m (changed c a t) = Unit {0}

-- ── boards with no odd vertex, as demand 3 has it ──
-- "while every vertex's degree plus its terminals is even"
abbrev pub AllEven : Session → Type 0
AllEven m = (v : Vertex) → IsVertex m.block.board v → Even m.block.board (pairs m.nets) v

-- a routing exactly where paths exist; where none exist, the first overfull cut: 34 never comes
pub record RightlyEven (m : Session) (answer : Result ℕ) (HandedBack : ℕ → Type 0) : Type 0 where
  pub exactly : ((n : ℕ) × (answer ≡ yes n) × HandedBack n) ↔ Routable m.block.board (pairs m.nets)
  pub named : (Routable m.block.board (pairs m.nets) → ⊥) → NamesCut m answer
  pub never : answer ≡ no (refusal 34 0) → ⊥

abbrev pub RoutedEven : (room : Session → ℕ) → Session → Made → Type 0
RoutedEven room m (routed before r after) = room m ≤ length before → AllEven m → RightlyEven m (route_answer r) (HandsBack m before after)
RoutedEven room m (routed_bytes before r after) =
    room m ≤ length before / 4 → AllEven m → RightlyEven m (route_answer r) (HandsBackBytes m before after)
RoutedEven room m (changed c a t) = Unit {0}

-- both, of one routing call on m
pub record RightlyBoth (m : Session) (answer : Result ℕ) (HandedBack : ℕ → Type 0) : Type 0 where
  pub few_odd : FewOdd m → Rightly m answer HandedBack
  pub all_even : AllEven m → RightlyEven m answer HandedBack

-- two routing calls are "given or refused" alike: each refusal of the one is that of the other
abbrev pub RefusedAlike : RouteAnswer → RouteAnswer → Type 0
RefusedAlike x y = (q : Refusal) → (route_answer x ≡ no q) ↔ (route_answer y ≡ no q)

-- the whole of demand 3, for the calls ms from the fresh session s: the machine starts with its board, no nets, an empty pile and nothing kept.
-- "its lists take in every call that changes a session" (02, §5): any mixture of them, and of routing calls. `room` says how many words the buffer of
-- a routing call must have for the demand to speak of it
pub record Demand3With (room : Session → ℕ) (s : code.Session) (ms : List Made) : Type 0 where
  -- "after it the board, nets and pile are those of 01's list machine", which "holds the names too" (02, §5),
  pub session : session_of (last s ms) ≡ after (bare (session_of s).block) (calls_of ms)
  -- "and each add, withdrawal and take-back", and each list of nets, keep, return and move, "was answered as the machine answers."
  pub answered : answers_of ms ≡ answers (bare (session_of s).block) (calls_of ms)
  -- "a routing after any mixture concerns the nets that the history, returns included, leaves on the board" (02, §5): those that the machine then
  -- holds
  pub concerned : Everywhere Concerns (bare (session_of s).block) ms
  pub routings : Everywhere (RoutedRightly room) (bare (session_of s).block) ms
  -- and while every vertex is even, in the demand's own words
  pub even_routings : Everywhere (RoutedEven room) (bare (session_of s).block) ms

-- "the case of a long enough buffer" reads "that word limit" (02, §11): that of the session that the machine holds at the call
abbrev pub Demand3 : code.Session → List Made → Type 0
Demand3 s ms = Demand3With route_room s ms

-- and as the demand had it, "with 2,049 words or more"
abbrev pub Demand3Before : code.Session → List Made → Type 0
Demand3Before s ms = Demand3With (λ m. routing_limit) s ms
