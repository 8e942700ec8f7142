-- Definitions only: the shape of a list of routing words (document 01, "Routing words", refusals 41 to 43), and the paths in it. Nothing is proved
-- here.
use Rattle.std.specs.Prelude.{Bool, false, cond, ◌||◌, List, [], ◌∷◌, ℕ, zero, suc, ◌+◌, ltb, eqb, length, take, drop}
use Rattle.std.proofs.Math.Option.{Option, none, some}
use Rattle.board.specs.Path.{number}
use Rattle.board.specs.declared.Direction.{Direction}
use Rattle.net.specs.declared.Net.{Net}
use Rattle.session_rules.specs.Refusal.{Refusal, refusal}
use Rattle.words.specs.RoutingWord.{routing_word, path_in, run_in}
use Rattle.words.specs.declared.Run.{Run}
use Rattle.words.specs.declared.RoutingWord.{RoutingWord}
use Rattle.words.specs.declared.RoutingWord.TheVariants as word

-- "At most 64 + 1,984 + 1 = 2,049 words are needed."
abbrev pub routing_limit : ℕ
routing_limit = 2049

-- where the reading of the list stands
pub data Due : Type 0 where
  -- a path word or the end word
  between : Due
  -- one more run word and then so many, after one of this direction
  in_path : (more : ℕ) → (last : Option Direction) → Due
  -- nothing: the end word has been
  over : Due

-- after a path word with so many runs, or after a run with so many more to come
abbrev pub runs_due : ℕ → Option Direction → Due
runs_due zero last = between
runs_due (suc n) last = in_path n last

-- the direction of the run before
abbrev pub repeated : Option Direction → Direction → Bool
repeated none d = false
repeated (some e) d = eqb (number e) (number d)

-- what a word leads to: a refusal by its number, or what is due next, with the nets that still have no path
pub data Move : Type 0 where
  wrong : ℕ → Move
  on : Due → List Net → Move

-- between paths. 42: "not the kind due". 43: "path not of the next net, end before all nets or with another count";
-- "the end word is due once all nets have one; a path word there is 43, as is an end word too soon."
abbrev pub move_between : (all : ℕ) → List Net → RoutingWord → Move
move_between all ns (word.Run r) = wrong 42
move_between all ns word.Unknown = wrong 42
move_between all [] (word.Path p) = wrong 43
move_between all (n ∷ ns) (word.Path p) = cond (eqb p.number n.number) (on (runs_due p.runs none) ns) (wrong 43)
move_between all [] (word.End k) = cond (eqb k all) (on over []) (wrong 43)
move_between all (n ∷ ns) (word.End k) = wrong 43

-- in a path. 42: "not the kind due, .. length 0, or direction repeated"
abbrev pub move_in_path : ℕ → Option Direction → List Net → RoutingWord → Move
move_in_path more last ns (word.Path p) = wrong 42
move_in_path more last ns (word.End k) = wrong 42
move_in_path more last ns word.Unknown = wrong 42
move_in_path more last ns (word.Run r) =
    cond (eqb r.length 0 || repeated last r.direction) (wrong 42) (on (runs_due more (some r.direction)) ns)

-- "a word after the end is 43 whatever it holds"
abbrev pub move : (all : ℕ) → Due → List Net → ℕ → Move
move all between ns w = move_between all ns (routing_word w)
move all (in_path more last) ns w = move_in_path more last ns (routing_word w)
move all over ns w = wrong 43

-- 43: "list over early (index = length)"
abbrev pub at_end : ℕ → Due → Option Refusal
at_end i between = some (refusal 43 i)
at_end i (in_path more last) = some (refusal 43 i)
at_end i over = none

-- the refusal at index i, or what the words after it give
abbrev pub onward : ℕ → Move → (Due → List Net → Option Refusal) → Option Refusal
onward i (wrong k) f = some (refusal k i)
onward i (on due ns) f = f due ns

-- "Judge words are taken one by one, 42 before 43": the first refusal of the words from index i on
unfoldable pub words_refused : (all : ℕ) (i : ℕ) → Due → List Net → List ℕ → Option Refusal
words_refused all i due ns [] = at_end i due
words_refused all i due ns (w ∷ ws) = onward i (move all due ns w) (λ next left. words_refused all (suc i) next left ws)

-- 41: "no words or more than 2,049"
abbrev pub bad_count : List ℕ → Bool
bad_count ws = eqb (length ws) 0 || ltb routing_limit (length ws)

-- ── the paths of a list that has the shape ──
-- a run with its word's index
pub record RunAt : Type 0 where
  pub index : ℕ
  pub run : Run

-- a net's path: the index of its path word, and its runs
pub record PathAt : Type 0 where
  pub index : ℕ
  pub net : Net
  pub runs : List RunAt

unfoldable pub runs_from : ℕ → List ℕ → List RunAt
runs_from i [] = []
runs_from i (w ∷ ws) = record { index = i; run = run_in w } ∷ runs_from (suc i) ws

-- "each path's run words are judged as a part of the list of their own": the count of the path word says how many they are
unfoldable pub paths_from : ℕ → List Net → List ℕ → List PathAt
paths_from i [] ws = []
paths_from i (n ∷ ns) [] = []
paths_from i (n ∷ ns) (w ∷ ws) =
    record { index = i; net = n; runs = runs_from (suc i) (take (path_in w).runs ws) }
    ∷ paths_from (suc i + (path_in w).runs) ns (drop (path_in w).runs ws)
