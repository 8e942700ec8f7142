-- Definitions only: document 01, "Routing words". Nothing is proved here.
use Rattle.std.specs.Prelude.{cond, List, [], ◌∷◌, ◌++◌, map, ℕ, ◌+◌, eqb, length}
use Rattle.board.specs.Path.{number}
use Rattle.board.specs.declared.Direction.{Direction}
use Rattle.board.specs.declared.Direction.TheVariants.{Up, Right, Down, Left}
use Rattle.net.specs.declared.Net.{Net}
use Rattle.words.specs.Bits.{bits, put, kind}
use Rattle.words.specs.declared.Path.{Path}
use Rattle.words.specs.declared.Run.{Run}
use Rattle.words.specs.declared.RoutingWord.{RoutingWord}
use Rattle.words.specs.declared.RoutingWord.TheVariants as word

-- | path | 31-28 = 4, 27-20 net number, 10-0 count of run words that follow |
abbrev pub path_word : Path → ℕ
path_word p = put 28 4 + put 20 p.number + p.runs

abbrev pub run : Direction → ℕ → Run
run d n = record { direction = d; length = n }

-- | run | 31-28 = 5, 27-26 direction (0 up, 1 right, 2 down, 3 left), 4-0 length 1 to 31 |
abbrev pub run_word : Run → ℕ
run_word r = put 28 5 + put 26 (number r.direction) + r.length

-- | routing's end | 31-28 = 14, 7-0 count of paths |
abbrev pub routing_end_word : ℕ → ℕ
routing_end_word paths = put 28 14 + paths

-- "0 up, 1 right, 2 down, 3 left"
abbrev pub direction : ℕ → Direction
direction n = cond (eqb n 0) Up (cond (eqb n 1) Right (cond (eqb n 2) Down Left))

-- the fields of a word, by its kind
abbrev pub path_in : ℕ → Path
path_in w = record { number = bits 20 8 w; runs = bits 0 11 w }

abbrev pub run_in : ℕ → Run
run_in w = record { direction = direction (bits 26 2 w); length = bits 0 5 w }

-- "Bits not named are zero."
abbrev pub only_if : (w packed : ℕ) → RoutingWord → RoutingWord
only_if w packed x = cond (eqb packed w) x word.Unknown

unfoldable pub as_path : ℕ → RoutingWord
as_path w = only_if w (path_word (path_in w)) (word.Path (path_in w))

unfoldable pub as_run : ℕ → RoutingWord
as_run w = only_if w (run_word (run_in w)) (word.Run (run_in w))

unfoldable pub as_routing_end : ℕ → RoutingWord
as_routing_end w = only_if w (routing_end_word (bits 0 8 w)) (word.End (bits 0 8 w))

-- what a word of a routing says, by its kind
unfoldable pub routing_word : ℕ → RoutingWord
routing_word w = cond (eqb (kind w) 4) (as_path w) (cond (eqb (kind w) 5) (as_run w) (cond (eqb (kind w) 14) (as_routing_end w) word.Unknown))

-- ── a routing as words ──
-- a step in front of runs: "Two runs in a row of one path differ in direction"
abbrev pub step_then : Direction → List Run → List Run
step_then d [] = run d 1 ∷ []
step_then d (r ∷ rs) =
    cond (eqb (number d) (number r.direction)) (run d (r.length + 1) ∷ rs) (run d 1 ∷ (r ∷ rs))

-- the runs of a path
unfoldable pub runs_of : List Direction → List Run
runs_of [] = []
runs_of (d ∷ ds) = step_then d (runs_of ds)

-- the words of one path
unfoldable pub path_words : Net → List Direction → List ℕ
path_words n ds = path_word (record { number = n.number; runs = length (runs_of ds) }) ∷ map run_word (runs_of ds)

-- "each path is written into the part of the buffer after the path before it, in rising net number"
unfoldable pub paths_words : List Net → List (List Direction) → List ℕ
paths_words [] dss = []
paths_words (n ∷ ns) [] = []
paths_words (n ∷ ns) (ds ∷ dss) = path_words n ds ++ paths_words ns dss

-- and then the routing's end
unfoldable pub routing_words : List Net → List (List Direction) → List ℕ
routing_words ns dss = paths_words ns dss ++ (routing_end_word (length ns) ∷ [])
