-- The degree worked out by named cases is the count of edges, the kind of a place tells how many cells meet there, and these are counted once each.
-- Assumes nothing: the laws hold at every place of every board, within the limits or not.
use Rattle.std.specs.Prelude.{◌≡◌, refl, Bool, true, false, ◌&&◌, ◌||◌, ◌↔◌, ℕ, zero, suc, ◌≤◌, eqb}
use Rattle.std.proofs.Common.{arith, eqb-true}
use Rattle.count.specs.TruthLaws.{bool_eq, and_true, one_le}
use Rattle.board.specs.Board.{Board}
use Rattle.board.specs.Degree.{below_right, below_left, above_right, above_left, edge?, degree}
use Rattle.board.specs.Tests.{Meets, below-right, below-left, above-right, above-left}
use Rattle.board.specs.declared.Vertex.{Vertex}
use Rattle.board_convex.specs.Cells.{cells_at}
use Rattle.board_convex.proofs.Corners.{cells, edges}
use Rattle.board_degree.specs.Kind.{opposite?, kind_by, kind_of, cells_of_kind, degree_of_kind}
use Rattle.board_degree.specs.declared.VertexKind.{VertexKind}
use Rattle.board_degree.specs.declared.VertexKind.TheVariants.{OuterCorner, StraightSide, ConcaveCorner, Inside, TouchingCorners, NoVertex}

-- ── in each of the sixteen ways that four cells may be the board's: p and q above, r and s below, p and r left, q and s right ──
-- a test that is true of both truth values is true of each
abbrev both : (Bool → Bool) → Bool
both f = f true && f false

each : (f : Bool → Bool) → both f ≡ true → (x : Bool) → f x ≡ true
each f e true = (and_true (f true) (f false) e).0
each f e false = (and_true (f true) (f false) e).1

sixteen : (f : Bool → Bool → Bool → Bool → Bool) → both (λ p. both (λ q. both (λ r. both (f p q r)))) ≡ true
    → (p q r s : Bool) → f p q r s ≡ true
sixteen f e p q r s =
    let for-p = each (λ x. both (λ y. both (λ z. both (f x y z)))) e p in
    let for-q = each (λ y. both (λ z. both (f p y z))) for-p q in
    let for-r = each (λ z. both (f p q z)) for-q r in
    each (f p q r) for-r s

abbrev kind : (p q r s : Bool) → VertexKind
kind p q r s = kind_by (cells p q r s) ((p && s) || (q && r))

-- ── any board ──
-- "Every degree comes out as it does now"
pub degree_by_kind : (b : Board) (v : Vertex) → degree_of_kind (kind_of b v) ≡ degree b v
unfolding kind_of cells_at opposite? degree edge?
degree_by_kind b v = eqb-true _ _ (sixteen (λ p q r s. eqb (degree_of_kind (kind p q r s)) (edges p q r s)) refl
    (above_left b v) (above_right b v) (below_left b v) (below_right b v))

pub cells-of-kind : (b : Board) (v : Vertex) → cells_of_kind (kind_of b v) ≡ cells_at b v
unfolding kind_of cells_at opposite?
cells-of-kind b v = eqb-true _ _ (sixteen (λ p q r s. eqb (cells_of_kind (kind p q r s)) (cells p q r s)) refl
    (above_left b v) (above_right b v) (below_left b v) (below_right b v))

-- however it is told whether each of the four cells that may meet at v is the board's, as many are
pub cells_counted : (b : Board) (v : Vertex) (p q r s : Bool)
    → (p ≡ true) ↔ Meets b v 1 1 → (q ≡ true) ↔ Meets b v 1 0 → (r ≡ true) ↔ Meets b v 0 1 → (s ≡ true) ↔ Meets b v 0 0
    → cells_at b v ≡ cells p q r s
unfolding cells_at
cells_counted b v p q r s hp hq hr hs =
    rw (alike hp (above-left b v), alike hq (above-right b v), alike hr (below-left b v), alike hs (below-right b v)) refl
  where
    alike : {x y : Bool} {A : Type 0} → (x ≡ true) ↔ A → (y ≡ true) ↔ A → x ≡ y
    alike {x} {y} h k = bool_eq x y (λ e. k.1 (h.0 e)) (λ e. h.1 (k.0 e))

pub cells_at_most : (b : Board) (v : Vertex) → cells_at b v ≤ 4
unfolding cells_at
cells_at_most b v = omega (arith, one_le (above_left b v), one_le (above_right b v), one_le (below_left b v), one_le (below_right b v))

-- ── any kind ──
pub degree_at_most : (k : VertexKind) → degree_of_kind k ≤ 4
degree_at_most OuterCorner = omega arith
degree_at_most StraightSide = omega arith
degree_at_most ConcaveCorner = omega arith
degree_at_most Inside = omega arith
degree_at_most TouchingCorners = omega arith
degree_at_most NoVertex = omega arith

-- where four cells meet
pub inside_by : (n : ℕ) (o : Bool) → 4 ≤ n → kind_by n o ≡ Inside
inside_by zero o h = absurd (omega arith)
inside_by (suc zero) o h = absurd (omega arith)
inside_by (suc (suc zero)) o h = absurd (omega arith)
inside_by (suc (suc (suc zero))) o h = absurd (omega arith)
inside_by (suc (suc (suc (suc n)))) o h = refl
