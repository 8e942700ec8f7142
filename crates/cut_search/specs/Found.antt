-- Definitions only: the two parts of the list of overfull cuts, from where on no net crosses a column, and the code's two kinds of answer.
-- Nothing is proved here: Laws and Beyond have the laws.
use Rattle.std.specs.Prelude.{◌≡◌, Bool, cond, ◌&&◌, List, map, ℕ, ◌+◌, ◌%◌, ◌≤◌, max, eqb, None, Some}
use Rattle.std.specs.Prelude as rust
use Rattle.std.proofs.Math.Option.{Option, none, some}
use Rattle.count.specs.Lists.{up_to, select}
use Rattle.board.specs.Board.{Board, height}
use Rattle.board.specs.Degree.{vertex?, degree}
use Rattle.board.specs.declared.Vertex.{Vertex}
use Rattle.net.specs.declared.Pair.{Pair}
use Rattle.cut.specs.Cut.{crossing, overfull?}
use Rattle.cut.specs.declared.Cut.{Cut}
use Rattle.cut.specs.declared.Cut.TheVariants.{Row, Column}
use Rattle.net.specs.View.{Held}

-- the two parts of the list of overfull cuts
unfoldable pub overfull_rows : Board → List Pair → List Cut
overfull_rows b ps = select (overfull? b ps) (map Row (up_to (height b)))

unfoldable pub overfull_columns : Board → List Pair → List Cut
overfull_columns b ps = select (overfull? b ps) (map Column (up_to 31))

-- a vertex whose degree and so many terminals make an odd number
abbrev pub odd_with : Board → (terminals : ℕ) → Vertex → Bool
odd_with b n v = vertex? b v && eqb ((degree b v + n) % 2) 1

-- the greatest of m and the columns of what a place holds
abbrev pub further : ℕ → Held → ℕ
further m None = m
further m (Some p) = max (max m p.first.column) p.second.column

-- no net crosses column n or one right of it
pub record NoneCrossesFrom (ps : List Pair) (n : ℕ) : Type 0 where
  pub none_crosses : (j : ℕ) → n ≤ j → crossing (Column j) ps ≡ 0

-- what was found first
abbrev pub found_cut : Option Cut → rust.Option Cut
found_cut none = None
found_cut (some x) = Some x

abbrev pub found_vertex : Option Vertex → rust.Option Vertex
found_vertex none = None
found_vertex (some v) = Some v
