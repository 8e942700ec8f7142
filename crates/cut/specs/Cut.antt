-- Definitions only: document 01, "Cuts". Nothing is proved here.
use Rattle.std.specs.Prelude.{Bool, List, [], ◌∷◌, ◌++◌, map, ℕ, ◌+◌, leb, ℤ, pos, ◌-ℤ◌, ◌<ℤ◌}
use Rattle.std.specs.Bool.{xor}
use Rattle.std.specs.Int.Signed.{lt_z}
use Rattle.count.specs.Truth.{one}
use Rattle.count.specs.Sum.{count}
use Rattle.count.specs.Lists.{up_to, select}
use Rattle.board.specs.Board.{Board, height, at}
use Rattle.board.specs.Degree.{edge?}
use Rattle.board.specs.declared.Vertex.{Vertex}
use Rattle.board.specs.declared.Direction.TheVariants.{Right, Down}
use Rattle.net.specs.declared.Pair.{Pair}
use Rattle.cut.specs.declared.Cut.{Cut}
use Rattle.cut.specs.declared.Cut.TheVariants.{Row, Column}

-- "Row i has as edges its vertical edges"; "Column j lies between columns j and j+1; its edges are the horizontal edges there."
-- Columns and lines are 0 to 31.
unfoldable pub edges : Board → Cut → ℕ
edges b (Row i) = count 32 (λ c. edge? b Down (at i c))
edges b (Column j) = count 32 (λ l. edge? b Right (at l j))

-- the side of a cut that has the first lines or columns
abbrev pub side : Cut → Vertex → Bool
side (Row i) v = leb v.line i
side (Column j) v = leb v.column j

-- "A net crosses a cut when its terminals lie on different sides."
unfoldable pub crosses : Cut → Pair → Bool
crosses x p = xor (side x p.first) (side x p.second)

unfoldable pub crossing : Cut → List Pair → ℕ
crossing x [] = 0
crossing x (p ∷ ps) = one (crosses x p) + crossing x ps

-- "The margin, a signed number, is edges minus crossing nets;
unfoldable pub margin : Board → List Pair → Cut → ℤ
margin b ps x = pos (edges b x) -ℤ pos (crossing x ps)

-- a cut is overfull when it is below zero."
abbrev pub Overfull : Board → List Pair → Cut → Type 0
Overfull b ps x = margin b ps x <ℤ pos 0

unfoldable pub overfull? : Board → List Pair → Cut → Bool
overfull? b ps x = lt_z (margin b ps x) (pos 0)

-- "rows from the top, then columns from the left"
unfoldable pub cuts : Board → List Cut
cuts b = map Row (up_to (height b)) ++ map Column (up_to 31)

unfoldable pub overfull_cuts : Board → List Pair → List Cut
overfull_cuts b ps = select (overfull? b ps) (cuts b)
