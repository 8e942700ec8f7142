-- One line: its pins by its length and the rows above and below it. A line of n edges has n + 1 vertices, so with u edges upwards and d
-- downwards its pins are 4 (n + 1) - 2 n - u - d.
-- Assumes that the board is within the limits and, from "a convex board" on, convex.
use Rattle.std.specs.Prelude.{◌≡◌, refl, ◌↔◌, ℕ, zero, suc, ◌+◌, ◌-◌, ◌*◌, ◌≤◌, ◌<◌}
use Rattle.std.proofs.Common.{ap, arith}
use Rattle.std.proofs.Math.Bool.{false}
use Rattle.count.specs.Truth.{one}
use Rattle.count.specs.TruthLaws.{not_true}
use Rattle.count.specs.Sum.{sum, sum_eq, count, count_interval}
use Rattle.count.specs.Sums.{sum_add, sum_none}
use Rattle.board.specs.Board.{Board, Within, height, left, right, at, edge, IsEdge}
use Rattle.board.specs.Path.{along, Convex}
use Rattle.board.specs.Degree.{vertex?, edge?, degree, pins}
use Rattle.board.specs.Tests.{vertex_exact, edge_exact}
use Rattle.board.specs.EdgesAt.{no_edge_in_place}
use Rattle.board.specs.declared.Direction.{Direction}
use Rattle.board.specs.declared.Direction.TheVariants.{Up, Right, Down, Left}
use Rattle.board_convex.specs.Form.{width}
use Rattle.board_convex.specs.LineEnds.{line_left, line_right}
use Rattle.board_convex.proofs.Lines as lines
use Rattle.board_pins.proofs.AtVertex.{pins_degree}

-- DEFINITION: the pins of line l; its vertices; its edges in a direction
unfoldable pub line_pins : Board → ℕ → ℕ
line_pins b l = sum 32 (λ c. pins b (at l c))

abbrev pub vertices : Board → ℕ → ℕ
vertices b l = count 32 (λ c. vertex? b (at l c))

abbrev pub going : Board → Direction → ℕ → ℕ
going b d l = count 32 (λ c. edge? b d (at l c))

-- ── any board ──
-- pins and edges are four for each vertex
line_balance : (b : Board) (l : ℕ) → line_pins b l + ((going b Up l + going b Right l) + (going b Down l + going b Left l)) ≡ 4 * vertices b l
unfolding line_pins count degree
line_balance b l =
    let e : Direction → ℕ → ℕ = λ d c. one (edge? b d (at l c)) in
    let v : ℕ → ℕ = λ c. one (vertex? b (at l c)) in
    let up_right = sum_add 32 (e Up) (e Right) in
    let down-left = sum_add 32 (e Down) (e Left) in
    let all-four = sum_add 32 (λ c. e Up c + e Right c) (λ c. e Down c + e Left c) in
    let with-pins = sum_add 32 (λ c. pins b (at l c)) (λ c. degree b (at l c)) in
    let each = sum_eq 32 (λ c. pins b (at l c) + degree b (at l c)) (λ c. (v c + v c) + (v c + v c)) (λ c h. omega (arith, pins_degree b (at l c))) in
    let twice = sum_add 32 v v in
    let four = sum_add 32 (λ c. v c + v c) (λ c. v c + v c) in
    omega arith

-- a line whose edges in a direction are those of the columns from lo on and below hi
interval : (b : Board) (d : Direction) (l lo hi : ℕ) → lo ≤ hi → hi ≤ 32 → ((c : ℕ) → IsEdge b (along d (at l c)) ↔ ((lo ≤ c) × (c < hi)))
    → going b d l + lo ≡ hi
interval b d l lo hi h k f = count_interval 32 lo hi (λ c. edge? b d (at l c)) h k
    (λ c i. let x = edge_exact b d (at l c) in (λ t. (f c).0 (x.0 t), λ m. x.1 ((f c).1 m)))

-- a line with no edge in a direction
nowhere : (b : Board) (d : Direction) (l : ℕ) → ((c : ℕ) → IsEdge b (along d (at l c)) → ⊥) → going b d l ≡ 0
unfolding count
nowhere b d l h = sum_none 32 (λ c. one (edge? b d (at l c)))
    (λ c i. ap one (not_true (edge? b d (at l c)) (λ t. h c ((edge_exact b d (at l c)).0 t))))

module _ (b : Board) (W : Within b) where
  columns : (i : ℕ) → i < height b → (c : ℕ) → IsEdge b (edge (at i c) (at (suc i) c)) ↔ ((left b i ≤ c) × (c < suc (right b i)))
  columns i h c = let k = lines.row_edges b W i c in (λ e. let m = k.0 e in (m.1, omega (arith, m.2)), λ m. k.1 (h, m.0, omega (arith, m.1)))

  -- downwards a line has the edges of the row below it
  down-row : (i : ℕ) → i < height b → going b Down i + left b i ≡ suc (right b i)
  down-row i h = let x = W.cells i h in let y = W.fits i h in
      interval b Down i (left b i) (suc (right b i)) (omega arith) (omega arith) (columns i h)

  pub down-none : (l : ℕ) → height b ≤ l → going b Down l ≡ 0
  down-none l h = nowhere b Down l (λ c e. omega (arith, ((lines.row_edges b W l c).0 e).0))

  -- upwards those of the row above it
  up-row : (i : ℕ) → i < height b → going b Up (suc i) + left b i ≡ suc (right b i)
  up-row i h = let x = W.cells i h in let y = W.fits i h in let p : suc i - 1 ≡ i = omega arith in
      interval b Up (suc i) (left b i) (suc (right b i)) (omega arith) (omega arith) (rw p (columns i h))

  pub up_none : going b Up 0 ≡ 0
  up_none = nowhere b Up 0 (λ c. no_edge_in_place b Up (at 0 c) refl)

  -- one more than the row is wide
  pub down-width : (i : ℕ) → i < height b → going b Down i ≡ suc (width b i)
  down-width i h = omega (arith, down-row i h, W.cells i h)

  pub up-width : (i : ℕ) → i < height b → going b Up (suc i) ≡ suc (width b i)
  up-width i h = omega (arith, up-row i h, W.cells i h)

-- ── a convex board ──
module _ (b : Board) (W : Within b) (C : Convex b) where
  -- a line's ends lie in the frame
  ends : (l : ℕ) → l ≤ height b → (line_left b l < line_right b l) × (line_right b l ≤ 31)
  ends l h = let r = lines.line-is-row b W C l h in (
    omega (arith, r.2, r.3, W.cells r.0 r.1.row),
    omega (arith, r.3, W.fits r.0 r.1.row),
  )

  line-vertices : (l : ℕ) → l ≤ height b → vertices b l + line_left b l ≡ suc (line_right b l)
  line-vertices l h =
      let e = ends l h in
      count_interval 32 (line_left b l) (suc (line_right b l)) (λ c. vertex? b (at l c)) (omega arith) (omega arith) (λ c k.
      let x = vertex_exact b (at l c) in let d = lines.line-vertices b W C l c in
      (λ t. let m = d.0 (x.0 t) in (m.1, omega (arith, m.2)), λ m. x.1 (d.1 (h, m.0, omega (arith, m.1)))))

  across : (l : ℕ) → l ≤ height b → (c : ℕ) → IsEdge b (edge (at l c) (at l (suc c))) ↔ ((line_left b l ≤ c) × (c < line_right b l))
  across l h c = let d = lines.line-edges b W C l c in (λ e. let m = d.0 e in (m.1, m.2), λ m. d.1 (h, m.0, m.1))

  pub line-right : (l : ℕ) → l ≤ height b → going b Right l + line_left b l ≡ line_right b l
  line-right l h = let e = ends l h in interval b Right l (line_left b l) (line_right b l) (omega arith) (omega arith) (across l h)

  -- to the left the same edges, each from one column further on
  line-left : (l : ℕ) → l ≤ height b → going b Left l + suc (line_left b l) ≡ suc (line_right b l)
  line-left l h = let e = ends l h in interval b Left l (suc (line_left b l)) (suc (line_right b l)) (omega arith) (omega arith) back
    where
      back : (c : ℕ) → IsEdge b (along Left (at l c)) ↔ ((suc (line_left b l) ≤ c) × (c < suc (line_right b l)))
      back zero = (λ e. absurd (no_edge_in_place b Left (at l 0) refl e), λ m. absurd (omega (arith, m.0)))
      back (suc c) = let p : suc c - 1 ≡ c = omega arith in let k = across l h c in rw p (
        λ e. let m = k.0 e in (omega (arith, m.0), omega (arith, m.1)),
        λ m. k.1 (omega (arith, m.0), omega (arith, m.1)),
      )

  pub line-pins : (l : ℕ) → l ≤ height b → line_pins b l + (going b Up l + going b Down l) + 2 * line_left b l ≡ 2 * line_right b l + 4
  line-pins l h = omega (arith, line_balance b l, line-vertices l h, line-right l h, line-left l h)

  -- below the board there is no edge to the right
  pub right-none : (l : ℕ) → suc (height b) ≤ l → going b Right l ≡ 0
  right-none l h = nowhere b Right l (λ c e. omega (arith, ((lines.line-edges b W C l c).0 e).0))

  -- nor a pin
  pub no_pins : (l : ℕ) → suc (height b) ≤ l → line_pins b l ≡ 0
  unfolding line_pins pins
  no_pins l h = sum_none 32 (λ c. pins b (at l c)) (λ c i.
      let z : vertex? b (at l c) ≡ false =
      not_true (vertex? b (at l c)) (λ e. omega (arith, ((lines.line-vertices b W C l c).0 ((vertex_exact b (at l c)).0 e)).0)) in
      rw z refl)
