-- Straight paths: along a line within a row, and down or up a column that every row between has.
-- Assumes that rows are not empty, for the paths in a column.
use Rattle.std.specs.Prelude.{◌≡◌, refl, List, [], ◌∷◌, ◌++◌, ℕ, zero, suc, ◌+◌, ◌-◌, ◌≤◌, ◌<◌, min, max}
use Rattle.std.proofs.Common.{ap, inl, inr, arith}
use Rattle.count.specs.TruthLaws.{le_or_lt}
use Rattle.board.specs.Board.{Board, Within, at, IsEdge}
use Rattle.board.specs.Path.{next, along, Path}
use Rattle.board.specs.declared.Vertex.{Vertex}
use Rattle.board.specs.declared.Direction.{Direction}
use Rattle.board.specs.declared.Direction.TheVariants.{Up, Right, Down, Left}
use Rattle.board_convex.proofs.Turns.{many}
use Rattle.board_convex.proofs.Places.{HasColumn, column_down, cell_across}

pub path_join : (ds es : List Direction) (b : Board) (u w v : Vertex) → Path b u ds w → Path b w es v → Path b u (ds ++ es) v
path_join [] es b u w v p q = rw p q
path_join (d ∷ ds) es b u w v (e, p) q = (e, path_join ds es b (next d u) w v p q)

-- places one after the other, each joined to the next in one direction
run : (d : Direction) (n : ℕ) (b : Board) (p : ℕ → Vertex)
    → ((k : ℕ) → k < n → IsEdge b (along d (p k)) × (next d (p k) ≡ p (suc k))) → Path b (p 0) (many n d) (p n)
run d zero b p h = refl
run d (suc n) b p h =
    let s = h 0 (omega arith) in
    (s.0, rw s.1 (run d n b (λ k. p (suc k)) (λ k q. h (suc k) (omega arith))))

-- DEFINITION: a straight path leads from u to v
abbrev pub Run : Board → Vertex → Vertex → Type 0
Run b u v = (d : Direction) × (n : ℕ) × Path b u (many n d) v

-- along line l, the top or the bottom of row i, from column c to column m
pub run_along : (b : Board) (i l c m : ℕ) → i ≤ l → l ≤ suc i → HasColumn b i c → HasColumn b i m → Run b (at l c) (at l m)
run_along b i l c m p q r s = elim (le_or_lt c m) [
  | inl k ↦
      let f : c + 0 ≡ c = omega arith in let g : c + (m - c) ≡ m = omega arith in
      let w : Path b (at l (c + 0)) (many (m - c) Right) (at l (c + (m - c))) = run Right (m - c) b (λ x. at l (c + x)) (λ x y. (
        cell_across b i l (c + x) (suc (c + x)) (record { row = r.row; from = omega arith; to = omega arith }) p q refl,
        ap (λ (n : ℕ). at l n) (omega arith),
      )) in
      (Right, m - c, rw (f, g) at w)
  | inr k ↦
      let f : c - 0 ≡ c = omega arith in let g : c - (c - m) ≡ m = omega arith in
      let w : Path b (at l (c - 0)) (many (c - m) Left) (at l (c - (c - m))) = run Left (c - m) b (λ x. at l (c - x)) (λ x y. (
        cell_across b i l ((c - x) - 1) (c - x) (record { row = r.row; from = omega arith; to = omega arith }) p q (omega arith),
        ap (λ (n : ℕ). at l n) (omega arith),
      )) in
      (Left, c - m, rw (f, g) at w)
]

-- in column c, from line l to line m
pub run_upright : (b : Board) (W : Within b) (c l m : ℕ) → ((k : ℕ) → min l m ≤ k → k < max l m → HasColumn b k c) → Run b (at l c) (at m c)
run_upright b W c l m w = elim (le_or_lt l m) [
  | inl h ↦
      let f : l + 0 ≡ l = omega arith in let g : l + (m - l) ≡ m = omega arith in
      let r : Path b (at (l + 0) c) (many (m - l) Down) (at (l + (m - l)) c) = run Down (m - l) b (λ x. at (l + x) c) (λ x y.
      let o = w (l + x) (omega arith) (omega arith) in (
        column_down b (l + x) c (suc (l + x)) (W.cells (l + x) o.row) o refl,
        ap (λ (n : ℕ). at n c) (omega arith),
      )) in
      (Down, m - l, rw (f, g) at r)
  | inr h ↦
      let f : l - 0 ≡ l = omega arith in let g : l - (l - m) ≡ m = omega arith in
      let r : Path b (at (l - 0) c) (many (l - m) Up) (at (l - (l - m)) c) = run Up (l - m) b (λ x. at (l - x) c) (λ x y.
      let o = w ((l - x) - 1) (omega arith) (omega arith) in (
        column_down b ((l - x) - 1) c (l - x) (W.cells ((l - x) - 1) o.row) o (omega arith),
        ap (λ (n : ℕ). at n c) (omega arith),
      )) in
      (Up, l - m, rw (f, g) at r)
]
