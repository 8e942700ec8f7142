-- The definitions at work: every case, at places that a reader can draw. The four concave corners are those of case h of document 01; the two cells
-- that touch at a corner only are those of case f, which is not convex.
-- Assumes nothing.
use Rattle.std.specs.Prelude.{◌≡◌, refl, [], ◌∷◌, ℕ}
use Rattle.board.specs.Board.{Board, at}
use Rattle.board.specs.Degree.{below_right, below_left, above_right, above_left, edge?, degree}
use Rattle.board.specs.declared.Vertex.{Vertex}
use Rattle.board_convex.specs.Cells.{cells_at}
use Rattle.board_convex.proofs.Examples.{board_f, board_h}
use Rattle.board_degree.specs.Kind.{opposite?, kind_of}
use Rattle.board_degree.specs.declared.VertexKind.{VertexKind}
use Rattle.board_degree.specs.declared.VertexKind.TheVariants.{OuterCorner, StraightSide, ConcaveCorner, Inside, TouchingCorners, NoVertex}

-- DEFINITION: v is of this kind, and has so many edges
pub record Seen (b : Board) (v : Vertex) (k : VertexKind) (edges : ℕ) : Type 0 where
  pub kind : kind_of b v ≡ k
  pub counted : degree b v ≡ edges

-- a board of two rows of two cells
abbrev square : Board
square = record { rows = record { left = 0; right = 2 } ∷ record { left = 0; right = 2 } ∷ [] }

-- DEFINITION: each kind
pub record EachKind : Type 0 where
  pub outer_corner : Seen square (at 0 0) OuterCorner 2
  pub straight_side : Seen square (at 0 1) StraightSide 3
  pub upper_left_concave : Seen board_h (at 1 1) ConcaveCorner 4
  pub upper_right_concave : Seen board_h (at 1 2) ConcaveCorner 4
  pub lower_left_concave : Seen board_h (at 2 1) ConcaveCorner 4
  pub lower_right_concave : Seen board_h (at 2 2) ConcaveCorner 4
  pub inside : Seen square (at 1 1) Inside 4
  pub touching_corners : Seen board_f (at 1 1) TouchingCorners 4
  pub no-vertex : Seen square (at 0 3) NoVertex 0

pub each_kind : EachKind
unfolding kind_of opposite? cells_at degree edge? above_left above_right below_left below_right
each_kind = record {
  outer_corner = record { kind = refl; counted = refl };
  straight_side = record { kind = refl; counted = refl };
  upper_left_concave = record { kind = refl; counted = refl };
  upper_right_concave = record { kind = refl; counted = refl };
  lower_left_concave = record { kind = refl; counted = refl };
  lower_right_concave = record { kind = refl; counted = refl };
  inside = record { kind = refl; counted = refl };
  touching_corners = record { kind = refl; counted = refl };
  no-vertex = record { kind = refl; counted = refl };
}
