-- Definitions only: all that the router holds between two steps, as one record, and when it is in order. Nothing is proved here.
-- Each pair that was asked for still has the ends that it was made with; halves have numbers below `next`, and come after the pair; the two moves
-- at a
-- corner have directions.
use Rattle.std.specs.Prelude.{◌≡◌, Bool, true, false, List, ◌⊎◌, ℕ, ◌+◌, ◌-◌, ◌*◌, ◌≤◌, ◌<◌, length, get_or}
use Rattle.net.specs.declared.Pair.{Pair}
use Rattle.corner.specs.Shape.{Shape}
use Rattle.router_notes.specs.Limits.{pair_limit, vertex_limit}
use Rattle.router_notes.specs.Notes.{Item, Notes}
use Rattle.router_notes.specs.Inv.{turn_i, Inv}
use Rattle.router_notes.specs.Alike.{shape_of}
use Rattle.router_notes.specs.Arrays.{row_of, state_of, born, notesOf}
use Rattle.router_notes.specs.Table.{pairs_of}
use Rattle.router_notes.specs.State.{State}
use Rattle.router_table.specs.Scans.{seen_d}

pub record Run : Type 0 where
  pub la : List ℕ
  pub lb : List ℕ
  pub ids : List ℕ
  pub side : List ℕ
  pub vert : List ℕ
  pub half : List ℕ
  pub s1 : List ℕ
  pub s2 : List ℕ
  pub d1 : List ℕ
  pub d2 : List ℕ
  pub lo : List ℕ
  pub hi : List ℕ
  pub top : ℕ
  pub bottom : ℕ
  pub n : ℕ
  pub next : ℕ
  pub up : Bool

abbrev pub shape_r : Run → Shape
shape_r R = shape_of R.lo R.hi R.top R.bottom R.up

abbrev pub notes_r : Run → Notes
notes_r R = notesOf R.side R.vert R.half R.s1 R.s2 R.d1 R.d2

abbrev pub row_r : Run → ℕ → Item
row_r R = row_of R.la R.lb R.ids

abbrev pub state_r : Run → State
state_r R = state_of R.la R.lb R.ids R.side R.vert R.half R.s1 R.s2 R.d1 R.d2 R.n R.next (shape_r R) R.up

-- the live pairs as the shape is read
abbrev pub pairs_r : Run → List Pair
pairs_r R = pairs_of R.n (λ k. turn_i R.up (row_r R k))

pub record Sized (R : Run) : Type 0 where
  pub la : length R.la ≡ pair_limit
  pub lb : length R.lb ≡ pair_limit
  pub ids : length R.ids ≡ pair_limit
  pub side : length R.side ≡ vertex_limit
  pub vert : length R.vert ≡ vertex_limit
  pub half : length R.half ≡ pair_limit
  pub s1 : length R.s1 ≡ pair_limit
  pub s2 : length R.s2 ≡ pair_limit
  pub d1 : length R.d1 ≡ pair_limit
  pub d2 : length R.d2 ≡ pair_limit
  pub lo : length R.lo ≡ 32
  pub hi : length R.hi ≡ 32

abbrev pub Halves : List ℕ → ℕ → Type 0
Halves half next = (k : ℕ) → (get_or half k 0 ≡ 0) ⊎ ((k < get_or half k 0) × (get_or half k 0 + 1 < next))

-- each entry is a direction
abbrev pub Directed : List ℕ → Type 0
Directed d = (k : ℕ) → get_or d k 0 < 4

pub record Holds (s0 : State) (R : Run) : Type 0 where
  pub inv : Inv s0 (state_r R) (shape_r R) R.up
  pub halves : Halves R.half R.next
  pub first : Directed R.d1
  pub second : Directed R.d2
  pub asked : s0.n ≤ R.next
  pub made : (k : ℕ) → k < s0.n → s0.it k ≡ born R.side R.vert R.half R.s1 R.s2 R.d1 R.d2 k

-- ── the corner on the board: its line, its column, and the words of the corner and of its neighbours ──
abbrev pub line_r : Run → ℕ
line_r R = seen_d R.up R.top

abbrev pub col_r : Run → ℕ
col_r R = get_or R.lo (line_r R) 0

abbrev pub ul_r : Run → ℕ
ul_r R = line_r R * 32 + col_r R

abbrev pub nul_r : Run → ℕ
nul_r R = ul_r R + 1

abbrev pub bul_w : Bool → ℕ → ℕ
bul_w false u = u + 32
bul_w true u = u - 32

abbrev pub bul_r : Run → ℕ
bul_r R = bul_w R.up (ul_r R)
