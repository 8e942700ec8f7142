-- Definitions only: the report on a judged routing (document 01, "Judging a routing"; document 02, §6). Nothing is proved here.
-- It speaks of pairs and their paths as lists of directions.
use Rattle.std.specs.Prelude.{◌≡◌, Bool, cond, List, [], ◌∷◌, ◌++◌, ℕ, ◌+◌, ◌<◌, ltb, length, get_or, replicate}
use Rattle.count.specs.Lists.{select, tally}
use Rattle.board.specs.Path.{next, turn, turns}
use Rattle.board.specs.declared.Vertex.{Vertex}
use Rattle.board.specs.declared.Direction.{Direction}
use Rattle.net.specs.Terminals.{same}
use Rattle.net.specs.declared.Pair.{Pair}
use Rattle.board.specs.Order.{reading_order}
use Rattle.call_rules.specs.Shape.{RunAt}

-- the directions of a path's runs
unfoldable pub directions : List RunAt → List Direction
directions [] = []
directions (r ∷ rs) = replicate r.run.length r.run.direction ++ directions rs

-- "edges used"
unfoldable pub edges_used : List (List Direction) → ℕ
edges_used [] = 0
edges_used (ds ∷ dss) = length ds + edges_used dss

-- "turns (changes of direction along paths)"
unfoldable pub turns_made : List (List Direction) → ℕ
turns_made [] = 0
turns_made (ds ∷ dss) = turns ds + turns_made dss

-- how often a path from u turns at v
unfoldable pub turns_at : Vertex → Vertex → List Direction → ℕ
turns_at v u [] = 0
turns_at v u (d ∷ []) = 0
turns_at v u (d ∷ (e ∷ ds)) = cond (same (next d u) v) (turn d e) 0 + turns_at v (next d u) (e ∷ ds)

-- how often each of the paths turns at v
unfoldable pub turns_of_each : Vertex → List Pair → List (List Direction) → List ℕ
turns_of_each v [] dss = []
turns_of_each v (p ∷ ps) [] = []
turns_of_each v (p ∷ ps) (ds ∷ dss) = turns_at v p.first ds ∷ turns_of_each v ps dss

-- the sum of these
abbrev pub total : List ℕ → ℕ
total ns = tally (λ n. n) ns

-- how many turns occur at v
unfoldable pub turns_occurring : Vertex → List Pair → List (List Direction) → ℕ
turns_occurring v ps dss = total (turns_of_each v ps dss)

-- "A knock-knee is from now on a vertex where two turns occur, whether of two paths or of one."
unfoldable pub knock_knee : List Pair → List (List Direction) → Vertex → Bool
knock_knee ps dss v = ltb 1 (turns_occurring v ps dss)

unfoldable pub knock_knees : List Pair → List (List Direction) → ℕ
knock_knees ps dss = length (select (knock_knee ps dss) reading_order)

-- two turns "of two paths or of one", told by how often each path turns at a vertex
pub data TwoTurns (ns : List ℕ) : Type 0 where
  of_one : (i : ℕ) → get_or ns i 0 ≡ 2 → TwoTurns ns
  of_two : (i j : ℕ) → i < j → get_or ns i 0 ≡ 1 → get_or ns j 0 ≡ 1 → TwoTurns ns

-- what it was before: "vertices where two different nets each turn"
unfoldable pub knock_knee_of_nets : List Pair → List (List Direction) → Vertex → Bool
knock_knee_of_nets ps dss v = ltb 1 (length (select (ltb 0) (turns_of_each v ps dss)))

-- "The report gives edges used, turns .., and knock-knees"
pub record Report : Type 0 where
  pub edges : ℕ
  pub turns : ℕ
  pub knock_knees : ℕ

abbrev pub report_of : List Pair → List (List Direction) → Report
report_of ps dss = record { edges = edges_used dss; turns = turns_made dss; knock_knees = knock_knees ps dss }
