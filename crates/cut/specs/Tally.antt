-- Definitions only: the code's tally of a cut, by the definitions of Cut. Nothing is proved here: Laws has the laws.
use Rattle.std.specs.Prelude.{◌≡◌, Bool, cond, List, ℕ, ◌+◌, None, Some}
use Rattle.count.specs.Truth.{one}
use Rattle.board.specs.Board.{Board, at}
use Rattle.board.specs.Degree.{edge?}
use Rattle.board.specs.declared.Direction.TheVariants.{Right, Down}
use Rattle.net.specs.View.{Held, held_by}
use Rattle.net.specs.declared.Pair.{Pair}
use Rattle.cut.specs.Cut.{edges, crosses, crossing}
use Rattle.cut.specs.declared.Cut.{Cut}
use Rattle.cut.specs.declared.Cut.TheVariants.{Row, Column}
use Rattle.cut.specs.declared.Tally.{Tally}

-- the tally of a cut holds its edges and the nets that cross it
pub record TallyOf (b : Board) (ps : List Pair) (x : Cut) (t : Tally) : Type 0 where
  pub edges_are : t.edges ≡ edges b x
  pub nets_are : t.nets ≡ crossing x ps

-- the tally with what one place holds
abbrev pub held_crosses : Cut → Held → ℕ
held_crosses x h = held_by (λ p. one (crosses x p)) h

abbrev pub with_held : Tally → Cut → Held → Tally
with_held t x None = t
with_held t x (Some p) = cond (crosses x p) (record { edges = t.edges; nets = t.nets + 1 }) t

-- the cut's edge at column k of a row, or at line k of a column
abbrev pub cut_edge : Board → Cut → ℕ → Bool
cut_edge b (Row i) k = edge? b Down (at i k)
cut_edge b (Column j) k = edge? b Right (at k j)
