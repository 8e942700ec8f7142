-- Each vertex of a convex board falls under exactly one of the four named cases, and its degree is 2, 3, 4, 4 in their order.
-- Assumes that the board is within the limits and convex.
use Rattle.std.specs.Prelude.{◌≡◌, refl, Bool, true, false, ℕ, zero, suc, ◌≤◌, min}
use Rattle.std.proofs.Common.{sym, ◌∙◌, arith}
use Rattle.board.specs.Board.{Board, Within, IsVertex}
use Rattle.board.specs.Path.{Convex}
use Rattle.board.specs.Degree.{degree}
use Rattle.board.specs.declared.Vertex.{Vertex}
use Rattle.board_convex.specs.Cells.{cells_at}
use Rattle.board_convex.proofs.Corners.{degree_range, degree-of-cells}
use Rattle.board_degree.specs.Kind.{
  opposite?,
  kind_by,
  kind_of,
  degree_of_kind,
  Named,
  outer_corner,
  straight_side,
  concave_corner,
  inside,
  FallsUnderOne,
}
use Rattle.board_degree.proofs.KindLaws.{degree_by_kind, cells_at_most}
use Rattle.board_degree.specs.declared.VertexKind.{VertexKind}

-- ── the named cases by their cells ──
named_by : {k : VertexKind} {n d : ℕ} → Named k n d → k ≡ kind_by n false
named_by outer_corner = refl
named_by straight_side = refl
named_by concave_corner = refl
named_by inside = refl

named_edges : {k : VertexKind} {n d : ℕ} → Named k n d → d ≡ suc (min 3 n)
named_edges outer_corner = refl
named_edges straight_side = refl
named_edges concave_corner = refl
named_edges inside = refl

named_of : (n : ℕ) → 1 ≤ n → n ≤ 4 → Named (kind_by n false) n (suc (min 3 n))
named_of zero h g = absurd (omega arith)
named_of (suc zero) h g = outer_corner
named_of (suc (suc zero)) h g = straight_side
named_of (suc (suc (suc zero))) h g = concave_corner
named_of (suc (suc (suc (suc zero)))) h g = inside
named_of (suc (suc (suc (suc (suc n))))) h g = absurd (omega arith)

-- two cells that touch at a corner only would make 4 edges, not 3
not_touching : (n : ℕ) (o : Bool) → degree_of_kind (kind_by n o) ≡ suc (min 3 n) → kind_by n o ≡ kind_by n false
not_touching n false e = refl
not_touching zero true e = refl
not_touching (suc zero) true e = refl
not_touching (suc (suc zero)) true e = absurd (omega arith)
not_touching (suc (suc (suc zero))) true e = refl
not_touching (suc (suc (suc (suc n)))) true e = refl

pub falls_under_one : (b : Board) → Within b → Convex b → (v : Vertex) → IsVertex b v → FallsUnderOne b v
unfolding kind_of
falls_under_one b W C v h =
    let n = cells_at b v in
    let d : degree b v ≡ suc (min 3 n) = degree-of-cells b W C v h in
    let some : 1 ≤ n = omega (arith, (degree_range b v h).0) in
    let found : kind_of b v ≡ kind_by n false = not_touching n (opposite? b v) (degree_by_kind b v ∙ d) in
    record {
      named = rw (found, d) (named_of n some (cells_at_most b v));
      only = λ m. (named_by m ∙ sym found, named_edges m ∙ sym d);
    }
