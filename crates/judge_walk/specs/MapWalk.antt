-- Definitions only: the walk of a list's paths with a map of used edges. Nothing is proved here.
-- It is the walk of document 01 (call_rules, Walk), but an edge is looked up in the map, and its slot gets the net's number. It is defined on any
-- board, and says on a refusal how the map then stands. On a board within the limits its refusals are those of document 01: `paths_same` in SameWalk.
use Rattle.std.specs.Prelude.{◌≡◌, not, List, [], ◌∷◌, ℕ, zero, suc, ◌-◌, min, ltb, drop, get_or, set, Result, Ok, Err}
use Rattle.std.proofs.Math.Option.{Option, none, some}
use Rattle.board.specs.Board.{Board, at}
use Rattle.board.specs.Degree.{edge?}
use Rattle.board.specs.declared.Vertex.{Vertex}
use Rattle.board.specs.declared.Direction.{Direction}
use Rattle.board.specs.declared.Direction.TheVariants.{Up, Right, Down, Left}
use Rattle.net.specs.Terminals.{same}
use Rattle.net.specs.declared.Net.{Net}
use Rattle.net.specs.declared.Pair.{Pair}
use Rattle.net_places.specs.Places.{net, held_net}
use Rattle.session_rules.specs.Refusal.{Refusal, refusal, line, first_refusal}
use Rattle.words.specs.declared.Run.{Run}
use Rattle.call_rules.specs.Shape.{RunAt, PathAt, runs_from, paths_from}
use Rattle.judge_shape.specs.Refused.{number_of, refusal_of}
use Rattle.judge_shape.specs.declared.Fault.{Fault}
use Rattle.judge_shape.specs.declared.Refusal as shape
use Rattle.judge_walk.specs.Slots.{slot_at}
use Rattle.net.specs.View.{Held}

-- what a walk comes to: a refusal or a value, and the map as it then stands
pub data Came (A : Type 0) : Type 0 where
  stopped : Refusal → (m : List ℕ) → Came A
  came : A → (m : List ℕ) → Came A

abbrev pub then_on : {A B : Type 0} → Came A → (A → List ℕ → Came B) → Came B
then_on (stopped r m) f = stopped r m
then_on (came a m) f = f a m

abbrev pub unless_at : {A : Type 0} → List ℕ → Option Refusal → Came A → Came A
unless_at m none x = x
unless_at m (some r) x = stopped r m

-- The place one further. A line and a column are bytes: there is none above 255, and the walk stays there. (No board within the limits comes so far.)
abbrev pub further : Direction → Vertex → Vertex
further Up v = at (v.line - 1) v.column
further Right v = at v.line (min 255 (suc v.column))
further Down v = at (min 255 (suc v.line)) v.column
further Left v = at v.line (v.column - 1)

-- "A run is walked edge by edge, 44 before 45 at each": n edges of net k in direction d, for the run word at index i
unfoldable pub map_steps : Board → (k i : ℕ) → Direction → (n : ℕ) → Vertex → List ℕ → Came Vertex
map_steps b k i d zero v m = came v m
map_steps b k i d (suc n) v m =
    unless_at m (first_refusal (line (not (edge? b d v)) 44 i ∷ line (ltb 0 (get_or m (slot_at d v) 0)) 45 i ∷ []))
    (map_steps b k i d n (further d v) (set m (slot_at d v) k))

unfoldable pub map_runs : Board → (k : ℕ) → List RunAt → Vertex → List ℕ → Came Vertex
map_runs b k [] v m = came v m
map_runs b k (r ∷ rs) v m = then_on (map_steps b k r.index r.run.direction r.run.length v m) (map_runs b k rs)

-- "46 follows a path's last run"
unfoldable pub map_path : Board → PathAt → List ℕ → Came (Unit {0})
map_path b p m =
    then_on (map_runs b p.net.number p.runs p.net.ends.first m)
    (λ v a. unless_at a (first_refusal (line (not (same v p.net.ends.second)) 46 p.index ∷ [])) (came tt a))

-- "paths [are] walked, in order"
unfoldable pub map_paths : Board → List PathAt → List ℕ → Came (Unit {0})
map_paths b [] m = came tt m
map_paths b (p ∷ ps) m = then_on (map_path b p m) (λ u a. map_paths b ps a)

-- ── what the values of the code stand for ──
-- a run whose word stands at index i
abbrev pub run_end : (i : ℕ) → Result Vertex Fault → List ℕ → Came Vertex
run_end i (Ok v) m = came v m
run_end i (Err f) m = stopped (refusal (number_of f) i) m

-- what `walk_run` promises, whatever index the run's word has
pub record WalksRun (b : Board) (k : ℕ) (run : Run) (v : Vertex) (m m' : List ℕ) (r : Result Vertex Fault) : Type 0 where
  pub walks : (i : ℕ) → run_end i r m' ≡ map_steps b k i run.direction run.length v m

-- a path, or all paths
abbrev pub path_end : Result Unit shape.Refusal → List ℕ → Came (Unit {0})
path_end (Ok u) m = came tt m
path_end (Err r) m = stopped (refusal_of r) m

-- the path of a place: the paths of the nets after it, ns, go on from index n of the words, or there is a refusal
abbrev pub place_end : Board → List Net → List ℕ → Result ℕ shape.Refusal → List ℕ → Came (Unit {0})
place_end b ns ws (Ok n) m = map_paths b (paths_from n ns (drop n ws)) m
place_end b ns ws (Err r) m = stopped (refusal_of r) m

-- what `walk_place` promises, whatever nets come after it
pub record WalksPlace (b : Board) (k : ℕ) (held : Held) (ws : List ℕ) (i : ℕ) (m m' : List ℕ) (r : Result ℕ shape.Refusal) : Type 0 where
  pub walks : (ns : List Net) → place_end b ns ws r m' ≡ map_paths b (paths_from i (held_net k held ns) (drop i ws)) m

-- the path of net k whose word stands at index i, with these run words
abbrev pub path_of : (i k : ℕ) → Pair → List ℕ → PathAt
path_of i k ends ws = record { index = i; net = net k ends; runs = runs_from (suc i) ws }
