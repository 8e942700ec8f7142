-- Definitions only: where the code stands in a list of words, and what a word leads it to. Nothing is proved here.
use Rattle.std.specs.Prelude as rust
use Rattle.std.specs.Prelude.{cond, ◌&&◌, ◌||◌, List, [], ◌∷◌, ℕ, zero, suc, ltb, eqb, length, drop, Result, Ok, Err, None, Some}
use Rattle.std.proofs.Math.Option.{Option, none, some}
use Rattle.board.specs.declared.Direction.{Direction}
use Rattle.net.specs.declared.Pair.{Pair}
use Rattle.net.specs.declared.Net.{Net}
use Rattle.session_rules.specs.Refusal as machine
use Rattle.session_rules.specs.Refusal.{line, first_refusal}
use Rattle.net_places.specs.Places.{net, nets_from}
use Rattle.words.specs.RoutingWord.{routing_word}
use Rattle.words.specs.declared.RoutingWord.{RoutingWord}
use Rattle.words.specs.declared.RoutingWord.TheVariants as word
use Rattle.call_rules.specs.Route.{or_else}
use Rattle.call_rules.specs.Shape as shape
use Rattle.call_rules.specs.Shape.{between, in_path, over, wrong, on, repeated, bad_count, words_refused}
use Rattle.judge_shape.specs.declared.Fault.{Fault}
use Rattle.judge_shape.specs.declared.Fault.TheVariants.{Word, Order}
use Rattle.judge_shape.specs.Refused.{number_of}
use Rattle.judge_shape.specs.declared.Due.{Due}
use Rattle.judge_shape.specs.declared.Due.TheVariants as due
use Rattle.judge_shape.specs.declared.Step.{Step}
use Rattle.judge_shape.specs.declared.Step.TheVariants as step
use Rattle.net.specs.View.{Held}

-- the direction of the run before, if there is one in the path
abbrev pub Last : Type 0
Last = rust.Option Direction

-- what the code answers to a word
abbrev pub Move : Type 0
Move = Result Step Fault

abbrev pub last_of : Last → Option Direction
last_of None = none
last_of (Some d) = some d

abbrev pub due_of : Due → shape.Due
due_of due.Between = between
due_of (due.InPath more l) = in_path more (last_of l)
due_of due.Over = over

-- the nets after the next one
abbrev pub rest : List Net → List Net
rest [] = []
rest (n ∷ ns) = ns

-- a move of the code, where the nets ns still have no path: `Taken` gives the next of them its path
abbrev pub move_of : Move → List Net → shape.Move
move_of (Err f) ns = wrong (number_of f)
move_of (Ok (step.Same d)) ns = on (due_of d) ns
move_of (Ok (step.Taken d)) ns = on (due_of d) (rest ns)

-- ── the moves ──
abbrev pub due_after : ℕ → Last → Due
due_after zero l = due.Between
due_after (suc n) l = due.InPath n l

-- between paths: `next` is the number of the next net, or 0 where all nets have a path
abbrev pub between_move : (all next : ℕ) → RoutingWord → Move
between_move all next (word.Path p) = cond (ltb 0 next && eqb p.number next) (Ok (step.Taken (due_after p.runs None))) (Err Order)
between_move all next (word.End k) = cond (eqb next 0 && eqb k all) (Ok (step.Same due.Over)) (Err Order)
between_move all next (word.Run r) = Err Word
between_move all next word.Unknown = Err Word

abbrev pub path_move : ℕ → Last → RoutingWord → Move
path_move more l (word.Run r) =
    cond (eqb r.length 0 || repeated (last_of l) r.direction) (Err Word) (Ok (step.Same (due_after more (Some r.direction))))
path_move more l (word.Path p) = Err Word
path_move more l (word.End k) = Err Word
path_move more l word.Unknown = Err Word

abbrev pub move_to : (all next : ℕ) → Due → ℕ → Move
move_to all next due.Between w = between_move all next (routing_word w)
move_to all next (due.InPath more l) w = path_move more l (routing_word w)
move_to all next due.Over w = Err Order

-- ── the nets that still have no path: none, or from the one with the number that is next ──
pub data Starts (nets : List Held) : ℕ → List Net → Type 0 where
  at-end : Starts nets 0 []
  at_net : (k : ℕ) (ends : Pair) → Starts nets (suc k) (net (suc k) ends ∷ nets_from (suc (suc k)) (drop (suc k) nets))

-- ── the shape of the whole list: 41, then the words one by one ──
unfoldable pub shape_refused : List Net → List ℕ → Option machine.Refusal
shape_refused ns ws = or_else (first_refusal (line (bad_count ws) 41 0 ∷ [])) (words_refused (length ns) 0 between ns ws)
