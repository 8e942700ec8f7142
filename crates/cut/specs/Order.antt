-- Definitions only: which cut or vertex is the first one overfull or odd. Nothing is proved here: First has the laws.
use Rattle.std.specs.Prelude.{◌≡◌, List, ℕ, ◌+◌, ◌%◌, ◌<◌}
use Rattle.board.specs.Board.{Board, height, IsVertex}
use Rattle.board.specs.Degree.{degree}
use Rattle.board.specs.Order.{VertexBefore}
use Rattle.board.specs.declared.Vertex.{Vertex}
use Rattle.net.specs.declared.Pair.{Pair}
use Rattle.net.specs.Terminals.{terminals}
use Rattle.cut.specs.Cut.{Overfull}
use Rattle.cut.specs.declared.Cut.{Cut}
use Rattle.cut.specs.declared.Cut.TheVariants.{Row, Column}

-- the cuts of a board: its rows, and the columns between columns 0 to 31
abbrev pub IsCut : Board → Cut → Type 0
IsCut b (Row i) = i < height b
IsCut b (Column j) = j < 31

-- "rows from the top, then columns from the left"
pub data CutBefore : Cut → Cut → Type 0 where
  higher : {i k : ℕ} → i < k → CutBefore (Row i) (Row k)
  row_first : {i k : ℕ} → CutBefore (Row i) (Column k)
  further_left : {i k : ℕ} → i < k → CutBefore (Column i) (Column k)

pub record FirstOverfull (b : Board) (ps : List Pair) (x : Cut) : Type 0 where
  pub cut : IsCut b x
  pub overfull : Overfull b ps x
  pub before : (y : Cut) → IsCut b y → CutBefore y x → Overfull b ps y → ⊥

-- "A vertex is odd when its degree plus its terminals is odd."
abbrev pub Even : Board → List Pair → Vertex → Type 0
Even b ps v = (degree b v + terminals ps v) % 2 ≡ 0

abbrev pub Odd : Board → List Pair → Vertex → Type 0
Odd b ps v = (degree b v + terminals ps v) % 2 ≡ 1

pub record FirstOdd (b : Board) (ps : List Pair) (v : Vertex) : Type 0 where
  pub vertex : IsVertex b v
  pub odd : Odd b ps v
  pub before : (u : Vertex) → IsVertex b u → VertexBefore u v → Even b ps u
