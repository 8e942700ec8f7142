-- The sum of crossing nets over all rows and columns: rows and columns apart, and net by net.
-- Assumes nothing.
use Rattle.std.specs.Prelude.{◌≡◌, List, [], ◌∷◌, map, ℕ, ◌+◌}
use Rattle.std.proofs.Common.{arith}
use Rattle.count.specs.Truth.{one}
use Rattle.count.specs.Lists.{up_to, tally}
use Rattle.count.specs.Sum.{sum}
use Rattle.count.specs.Tallies.{tally_append, tally_add, tally_zero, tally_map}
use Rattle.board.specs.Board.{Board, height}
use Rattle.net.specs.declared.Pair.{Pair}
use Rattle.cut.specs.declared.Cut.{Cut}
use Rattle.cut.specs.declared.Cut.TheVariants.{Row, Column}
use Rattle.cut.specs.Cut.{crosses, crossing, cuts}
use Rattle.call_rules.specs.Wire.{crossing_sum}

-- a sum over all rows and columns
pub cuts_sum : (b : Board) (f : Cut → ℕ) → tally f (cuts b) ≡ sum (height b) (λ i. f (Row i)) + sum 31 (λ j. f (Column j))
unfolding cuts
cuts_sum b f = omega (
  arith,
  tally_append f (map Row (up_to (height b))) (map Column (up_to 31)),
  tally_map f Row (height b),
  tally_map f Column 31,
)

pub crossing-sum : (b : Board) (ps : List Pair)
    → crossing_sum b ps ≡ sum (height b) (λ i. crossing (Row i) ps) + sum 31 (λ j. crossing (Column j) ps)
unfolding crossing_sum
crossing-sum b ps = cuts_sum b (λ x. crossing x ps)

-- DEFINITION: how many rows and columns a pair crosses
unfoldable pub crossed_by : Board → Pair → ℕ
crossed_by b p = tally (λ x. one (crosses x p)) (cuts b)

pub crossing_none : (b : Board) → crossing_sum b [] ≡ 0
unfolding crossing_sum crossing
crossing_none b = tally_zero (cuts b)

pub crossing_more : (b : Board) (p : Pair) (ps : List Pair) → crossing_sum b (p ∷ ps) ≡ crossed_by b p + crossing_sum b ps
unfolding crossing_sum crossing crossed_by
crossing_more b p ps = tally_add (λ x. one (crosses x p)) (λ x. crossing x ps) (cuts b)
