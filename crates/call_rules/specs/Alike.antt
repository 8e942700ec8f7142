-- Definitions only: when two routings of one session are alike (document 02, §3), and the sense that document 01 gave the word. Nothing is proved
-- here: that the test is exact is in AlikeLaws, and that the older sense follows is in judge_laws, Alike.
-- Each routing is given by the edges of its paths, net by net (routing_rules: `trails`).
use Rattle.std.specs.Prelude.{Bool, true, false, ◌&&◌, List, [], ◌∷◌, ◌↔◌, ◌<◌, ltb, eqb, length}
use Rattle.board.specs.Board.{Edge}
use Rattle.board.specs.declared.Direction.{Direction}
use Rattle.routing_rules.specs.Routing.{uses}

-- "the same set of edges": an edge that one path uses the other uses too. So "the direction in which a loop of its own is walked plays no part".
abbrev pub SameEdges : List Edge → List Edge → Type 0
SameEdges es fs = (e : Edge) → (0 < uses e es) ↔ (0 < uses e fs)

-- "two routings are alike when each net uses the same set of edges in both"
abbrev pub Alike : List (List Edge) → List (List Edge) → Type 0
Alike [] [] = Unit {0}
Alike [] (fs ∷ fss) = ⊥
Alike (es ∷ ess) [] = ⊥
Alike (es ∷ ess) (fs ∷ fss) = SameEdges es fs × Alike ess fss

-- ── as a test ──
-- is each of these edges one of those?
unfoldable pub among? : List Edge → List Edge → Bool
among? [] fs = true
among? (e ∷ es) fs = ltb 0 (uses e fs) && among? es fs

unfoldable pub alike? : List (List Edge) → List (List Edge) → Bool
alike? [] [] = true
alike? [] (fs ∷ fss) = false
alike? (es ∷ ess) [] = false
alike? (es ∷ ess) (fs ∷ fss) = (among? es fs && among? fs es) && alike? ess fss

-- ── the older sense ──
-- document 01: "alike when every net uses equally many edges in both"
unfoldable pub equally_many : List (List Direction) → List (List Direction) → Bool
equally_many [] [] = true
equally_many [] (ds ∷ dss) = false
equally_many (ds ∷ dss) [] = false
equally_many (ds ∷ dss) (es ∷ ess) = eqb (length ds) (length es) && equally_many dss ess
