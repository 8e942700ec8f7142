-- The edges of a row number right - left + 1; those of a column are one for each line that passes the column.
-- Assumes that the board is within the limits, and for columns that it is convex.
use Rattle.std.specs.Prelude.{◌≡◌, true, ◌&&◌, ◌↔◌, leb, ltb}
use Rattle.std.proofs.Math.Bool.{Bool}
use Prim.Native.Nat.{ℕ, suc, ◌+◌, ◌≤◌, ◌<◌}
use native.Mathlib.Omega.{arith}
use Rattle.std.proofs.Common.{leb-true, le-leb, ltb-true, lt-ltb}
use Rattle.count.specs.TruthLaws.{and_true, and_yes, not_true, bool_eq}
use Rattle.count.specs.Sum.{count, count_eq, count_shorter, count_interval}
use Rattle.board.specs.Board.{Board, Within, height, left, right, at}
use Rattle.board.specs.Path.{Convex}
use Rattle.board.specs.Degree.{edge?}
use Rattle.board.specs.Tests.{edge_exact}
use Rattle.board.specs.declared.Direction.TheVariants.{Right, Down}
use Rattle.board_convex.specs.LineEnds.{line_left, line_right}
use Rattle.board_convex.proofs.Lines as lines
use Rattle.cut.specs.Cut.{edges}
use Rattle.cut.specs.declared.Cut.TheVariants.{Row, Column}

-- "Row i has as edges its vertical edges, right - left + 1 of them."
pub row_edges : (b : Board) → Within b → (i : ℕ) → i < height b → edges b (Row i) + left b i ≡ suc (right b i)
unfolding edges
row_edges b W i h =
    let c = W.cells i h in let r = W.fits i h in
    count_interval 32 (left b i) (suc (right b i)) (λ c. edge? b Down (at i c)) (omega arith) (omega arith) (λ c k.
    let e = edge_exact b Down (at i c) in let d = lines.row_edges b W i c in
    (λ t. let m = d.0 (e.0 t) in (m.1, omega (arith, m.2)), λ m. e.1 (d.1 (h, m.0, omega (arith, m.1)))))

-- line l has an edge between columns j and j + 1
abbrev pub passes : Board → ℕ → ℕ → Bool
passes b j l = leb (line_left b l) j && ltb j (line_right b l)

module _ (b : Board) (W : Within b) (C : Convex b) (j : ℕ) where
  line-edge : (l : ℕ) → (edge? b Right (at l j) ≡ true) ↔ ((l ≤ height b) × (passes b j l ≡ true))
  line-edge l =
      let e = edge_exact b Right (at l j) in let d = lines.line-edges b W C l j in (
        λ t. let m = d.0 (e.0 t) in
            (m.0, and_yes (leb (line_left b l) j) (ltb j (line_right b l)) (le-leb _ _ m.1) (lt-ltb _ _ m.2)),
        λ m. let k = and_true (leb (line_left b l) j) (ltb j (line_right b l)) m.1 in
            e.1 (d.1 (m.0, leb-true _ _ k.0, ltb-true _ _ k.1)),
      )

  -- "Column j lies between columns j and j+1; its edges are the horizontal edges there."
  pub column-edges : edges b (Column j) ≡ count (suc (height b)) (passes b j)
  unfolding edges
  column-edges =
      let f = W.few in let t : ℕ → Bool = λ l. edge? b Right (at l j) in
      let short = count_shorter 32 (suc (height b)) t (omega arith)
      (λ l a k. not_true (t l) (λ e. let m = (line-edge l).0 e in omega (arith, m.0))) in
      let same = count_eq (suc (height b)) t (passes b j)
      (λ l k. bool_eq (t l) (passes b j l) (λ e. ((line-edge l).0 e).1) (λ e. (line-edge l).1 (omega arith, e))) in
      cc (short, same)
