-- Definitions only: the boards that the steps work on, given by their lines, and when a problem on one is good. Nothing is proved here.
-- A shape has lines top to bottom; line l has the vertices from column a l to column b l. Two of its vertices at distance 1 are
-- always joined by an edge. Deleting a corner vertex of such a board leaves such a board, which is not so of boards given by rows.
use Rattle.std.specs.Prelude.{◌≡◌, Bool, true, false, ◌&&◌, List, ◌⊎◌, ℕ, zero, suc, ◌+◌, ◌*◌, ◌≤◌, ◌<◌, min, max, leb, eqb}
use Rattle.count.specs.Truth.{one}
use Rattle.count.specs.Sum.{sum}
use Rattle.board.specs.Board.{at}
use Rattle.board.specs.declared.Vertex.{Vertex}
use Rattle.net.specs.declared.Pair.{Pair}
use Rattle.net.specs.Terminals.{same}
use Rattle.cut.specs.declared.Cut.{Cut}
use Rattle.cut.specs.declared.Cut.TheVariants.{Row, Column}
use Rattle.cut.specs.Cut.{side}
use Rattle.corner.specs.Pairs.{All, leaving, standing}

-- lines and columns are 0 to 31; shut, so that no sum over them is ever run
unfoldable pub size : ℕ
size = 32

unfoldable pub last : ℕ
last = 31

pub record Shape : Type 0 where
  pub top : ℕ
  pub bottom : ℕ
  pub a : ℕ → ℕ
  pub b : ℕ → ℕ

-- ── vertices ──
unfoldable pub present : Shape → ℕ → ℕ → Bool
present S l c = (leb S.top l && leb l S.bottom) && (leb (S.a l) c && leb c (S.b l))

pub record At (S : Shape) (l c : ℕ) : Type 0 where
  pub low : S.top ≤ l
  pub high : l ≤ S.bottom
  pub from : S.a l ≤ c
  pub to : c ≤ S.b l

abbrev pub Here : Shape → Vertex → Type 0
Here S v = At S v.line v.column

abbrev pub Line : Shape → ℕ → Type 0
Line S l = (S.top ≤ l) × (l ≤ S.bottom)

-- how many there are
unfoldable pub vertices : Shape → ℕ
vertices S = sum size (λ l. sum size (λ c. one (present S l c)))

-- ── edges, of any set p of vertices ──
-- what stands before n, if there is anything
abbrev pub behind : (ℕ → Bool) → ℕ → Bool
behind f zero = false
behind f (suc n) = f n

-- the neighbours of a vertex
unfoldable pub deg : (ℕ → ℕ → Bool) → ℕ → ℕ → ℕ
deg p l c = one (p l (suc c)) + one (p (suc l) c) + one (behind (p l) c) + one (behind (λ k. p k c) l)

-- the edges of a cut: its capacity
unfoldable pub cap : (ℕ → ℕ → Bool) → Cut → ℕ
cap p (Row r) = sum size (λ c. one (p r c && p (suc r) c))
cap p (Column x) = sum size (λ l. one (p l x && p l (suc x)))

-- ── good problems ──
pub record Shaped (S : Shape) : Type 0 where
  -- there is a line, no line is empty, and all of them lie in the frame
  pub order : S.top ≤ S.bottom
  pub full : (l : ℕ) → Line S l → S.a l ≤ S.b l
  pub low : S.bottom < size
  pub thin : (l : ℕ) → Line S l → S.b l < size
  -- no line lacks a column that a line above it and a line below it have
  pub between_left : (i j k : ℕ) → S.top ≤ i → i < j → j < k → k ≤ S.bottom → S.a j ≤ max (S.a i) (S.a k)
  pub between_right : (i j k : ℕ) → S.top ≤ i → i < j → j < k → k ≤ S.bottom → min (S.b i) (S.b k) ≤ S.b j
  -- of any two lines one contains the other
  pub nested : (i j : ℕ) → Line S i → Line S j → ((S.a i ≤ S.a j) × (S.b j ≤ S.b i)) ⊎ ((S.a j ≤ S.a i) × (S.b i ≤ S.b j))

-- what the degree and the terminals of a vertex are together: even and at most 4
abbrev pub Fits : ℕ → Type 0
Fits n = (k : ℕ) × (n ≡ 2 * k) × (k ≤ 2)

pub record Good (S : Shape) (ps : List Pair) : Type 0 where
  pub shaped : Shaped S
  pub stand : All (Here S) ps
  pub even : (l c : ℕ) → At S l c → Fits (deg (present S) l c + standing (same (at l c)) ps)
  -- the margin of every cut is even and not negative (a cut beside the board has both counts 0)
  pub cuts : (X : Cut) → (k : ℕ) × (cap (present S) X ≡ leaving (side X) ps + 2 * k)

-- a cut has an edge to spare, or none
abbrev pub Roomy : Shape → List Pair → Cut → Type 0
Roomy S ps X = leaving (side X) ps < cap (present S) X

abbrev pub Full : Shape → List Pair → Cut → Type 0
Full S ps X = leaving (side X) ps ≡ cap (present S) X

-- ── the top line ──
-- the column where it starts, and the one where it ends
abbrev pub start : Shape → ℕ
start S = S.a S.top

abbrev pub finish : Shape → ℕ
finish S = S.b S.top

-- every line contains it
abbrev pub Top : Shape → Type 0
Top S = (l : ℕ) → Line S l → (S.a l ≤ start S) × (finish S ≤ S.b l)

-- ── the corner ──
-- The upper left vertex, its right neighbour and the vertex below it, by the names that document 004 gives them.
abbrev pub UL : Shape → Vertex
UL S = at S.top (start S)

abbrev pub NUL : Shape → Vertex
NUL S = at S.top (suc (start S))

abbrev pub BUL : Shape → Vertex
BUL S = at (suc S.top) (start S)

-- the row cut and the column cut next to it
abbrev pub top_cut : Shape → Cut
top_cut S = Row S.top

abbrev pub left_cut : Shape → Cut
left_cut S = Column (start S)

-- the shape without it: the top line loses its first vertex
abbrev pub narrow : Shape → Shape
narrow S = record { top = S.top; bottom = S.bottom; a = λ l. S.a l + one (eqb l S.top); b = S.b }

-- or, where it is alone on its line, the top line goes
abbrev pub lower : Shape → Shape
lower S = record { top = suc S.top; bottom = S.bottom; a = S.a; b = S.b }

-- S' is S without the vertex u
pub record Less (S S' : Shape) (u : Vertex) : Type 0 where
  pub others : (l c : ℕ) → same u (at l c) ≡ false → present S' l c ≡ present S l c
  pub gone : present S' u.line u.column ≡ false
  pub was : present S u.line u.column ≡ true
