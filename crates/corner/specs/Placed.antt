-- Definitions only: pairs placed on a shape, with the cut condition apart. Nothing is proved here.
use Rattle.std.specs.Prelude.{◌≡◌, Bool, List, ℕ, ◌+◌, ◌≤◌}
use Rattle.count.specs.Truth.{one}
use Rattle.board.specs.Board.{at}
use Rattle.board.specs.declared.Vertex.{Vertex}
use Rattle.net.specs.declared.Pair.{Pair}
use Rattle.net.specs.Terminals.{same}
use Rattle.cut.specs.declared.Cut.{Cut}
use Rattle.cut.specs.Cut.{side}
use Rattle.count.specs.Parity.{odd_number}
use Rattle.corner.specs.Pairs.{All, leaving, standing}
use Rattle.corner.specs.Shape.{Shape, present, At, Here, deg, cap, Shaped, Fits}

-- pairs placed on a shape, every vertex even; the cut condition stands apart
pub record Placed (S : Shape) (ps : List Pair) : Type 0 where
  pub shaped : Shaped S
  pub stand : All (Here S) ps
  pub even : (l c : ℕ) → At S l c → Fits (deg (present S) l c + standing (same (at l c)) ps)

-- no cut has more pairs than edges
abbrev pub CutCondition : Shape → List Pair → Type 0
CutCondition S ps = (X : Cut) → leaving (side X) ps ≤ cap (present S) X

-- ── vertices that may be odd ──
-- pairs placed on a shape
pub record Loose (S : Shape) (ps : List Pair) : Type 0 where
  pub shaped : Shaped S
  pub stand : All (Here S) ps
  pub few : (l c : ℕ) → At S l c → deg (present S) l c + standing (same (at l c)) ps ≤ 4

-- the degree and the terminals of a vertex are together odd
abbrev pub odd_at : Shape → List Pair → Vertex → Bool
odd_at S ps v = odd_number (deg (present S) v.line v.column + standing (same v) ps)

-- helper pairs: each odd vertex is an end of one of them, and no other vertex is
pub record HelpersOn (S : Shape) (ps hs : List Pair) : Type 0 where
  pub stand : All (Here S) hs
  pub each : (x : Vertex) → Here S x → standing (same x) hs ≡ one (odd_at S ps x)
