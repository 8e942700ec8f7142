-- Definitions only: document 01, "The board", first paragraph, sentence by sentence. Nothing is proved here.
use Rattle.std.specs.Prelude.{List, ℕ, suc, ◌≤◌, ◌<◌, length, get_or}
use Rattle.board.specs.declared.Row.{Row}
use Rattle.board.specs.declared.Vertex.{Vertex}

-- "A board is .. rows of unit cells, numbered from 0 at the top."
pub record Board : Type 0 where
  pub rows : List Row

abbrev pub height : Board → ℕ
height b = length b.rows

-- "Row i runs from column left to column right." (Below the last row stand rows of no cell.)
abbrev pub no_row : Row
no_row = record { left = 0; right = 0 }

abbrev pub left : Board → ℕ → ℕ
left b i = (get_or b.rows i no_row).left

abbrev pub right : Board → ℕ → ℕ
right b i = (get_or b.rows i no_row).right

-- The limits: "A board is 1 to 31 rows", "0 <= left < right <= 31".
pub record Within (b : Board) : Type 0 where
  pub some : 1 ≤ height b
  pub few : height b ≤ 31
  pub cells : (i : ℕ) → i < height b → left b i < right b i
  pub fits : (i : ℕ) → i < height b → right b i ≤ 31

-- The unit cell of row i between columns j and j + 1 is one of the board's.
pub record Cell (b : Board) (i j : ℕ) : Type 0 where
  pub row : i < height b
  pub from : left b i ≤ j
  pub to : j < right b i

-- "A vertex is written (line, column)."
abbrev pub at : ℕ → ℕ → Vertex
at l c = record { line = l; column = c }

-- An edge is written by its two ends, the left or upper one first.
pub record Edge : Type 0 where
  pub from : Vertex
  pub to : Vertex

abbrev pub edge : Vertex → Vertex → Edge
edge u v = record { from = u; to = v }

-- "Line i is the top of row i", and so line i + 1 is its bottom. The four corners of the cell between columns j and j + 1:
pub data Corner (i j : ℕ) : Vertex → Type 0 where
  top_left : Corner i j (at i j)
  top_right : Corner i j (at i (suc j))
  bottom_left : Corner i j (at (suc i) j)
  bottom_right : Corner i j (at (suc i) (suc j))

-- and its four sides:
pub data Side (i j : ℕ) : Edge → Type 0 where
  top_side : Side i j (edge (at i j) (at i (suc j)))
  bottom_side : Side i j (edge (at (suc i) j) (at (suc i) (suc j)))
  left_side : Side i j (edge (at i j) (at (suc i) j))
  right_side : Side i j (edge (at i (suc j)) (at (suc i) (suc j)))

-- "Its vertices are the corners of its cells
abbrev pub IsVertex : Board → Vertex → Type 0
IsVertex b v = (i : ℕ) × (j : ℕ) × Cell b i j × Corner i j v

-- and its edges are the sides of its cells."
abbrev pub IsEdge : Board → Edge → Type 0
IsEdge b e = (i : ℕ) × (j : ℕ) × Cell b i j × Side i j e
