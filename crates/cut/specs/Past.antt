-- Past the lines and columns of Extent a board has no vertex, and a cut no edge.
-- Assumes nothing: the laws hold on any board, within the limits or not.
use Rattle.std.specs.Prelude.{◌≡◌, refl, true, false, ℕ, zero, suc, ◌-◌, ◌≤◌, ◌<◌, max, ltb}
use Rattle.std.proofs.Common.{ap, ◌∙◌, inl, inr, arith, ltb-false}
use Rattle.std.proofs.Math.ListN.{get_or-eq_default}
use Rattle.count.specs.TruthLaws.{bool, not_true}
use Rattle.count.specs.Sum.{count, count_shorter}
use Rattle.board.specs.Board.{Board, height, right, no_row, at, IsVertex}
use Rattle.board.specs.Degree.{vertex?, edge?}
use Rattle.board.specs.Tests.{vertex_exact, edge_exact}
use Rattle.board.specs.declared.Row as row
use Rattle.board.specs.declared.Direction.{Direction}
use Rattle.board.specs.declared.Direction.TheVariants.{Right, Down}
use Rattle.board_convex.specs.LineEnds.{line_right}
use Rattle.board_convex.proofs.Lines.{line_spans_row, edge_joins}
use Rattle.board_convex.proofs.Places.{vertex_in_row}
use Rattle.cut.specs.Cut.{edges}
use Rattle.cut.specs.Tally.{cut_edge}
use Rattle.cut.specs.Extent.{lines_of, columns_of, extent}
use Rattle.cut.specs.Laws.{edges_count}
use Rattle.cut.specs.declared.Cut.{Cut}
use Rattle.cut.specs.declared.Cut.TheVariants.{Row, Column}

-- ── the end of a line, by the rows above and below it ──
pub line-right : (b : Board) (l : ℕ) → max (right b (l - 1)) (right b l) ≡ line_right b l
unfolding line_right
line-right b zero = omega arith
line-right b (suc k) =
    let e : suc k - 1 ≡ k = omega arith in
    elim (bool (ltb (suc k) (height b))) [
      | inl h ↦ rw (h, e) refl
      | inr h ↦ let f = ltb-false (suc k) (height b) h in
          let r : right b (suc k) ≡ 0 = ap (λ (r : row.Row). r.right) (get_or-eq_default b.rows no_row f) in
          rw (h, e) (omega arith)
    ]

-- ── vertices ──
module _ (b : Board) (l c : ℕ) where
  vertex-near : IsVertex b (at l c) → (l ≤ height b) × (c ≤ line_right b l)
  vertex-near v =
      let k = vertex_in_row b (at l c) v in let i = k.0 in let h = k.1 in
      let s = line_spans_row b i l (record { row = h.row; low = h.low; high = h.high }) in
      (omega (arith, h.row, h.high), omega (arith, h.to, s.1))

  pub no-vertex-below : lines_of b ≤ l → l < 32 → vertex? b (at l c) ≡ false
  no-vertex-below p q = not_true (vertex? b (at l c)) (λ e. let n = vertex-near ((vertex_exact b (at l c)).0 e) in omega (arith, n.0))

  pub no-vertex-right : columns_of b l ≤ c → c < 32 → vertex? b (at l c) ≡ false
  no-vertex-right p q = not_true (vertex? b (at l c)) (λ e. let n = vertex-near ((vertex_exact b (at l c)).0 e) in omega (arith, n.1))

  edge-near : (d : Direction) → edge? b d (at l c) ≡ true → (l ≤ height b) × (c ≤ line_right b l)
  edge-near d e = vertex-near (edge_joins b d (at l c) ((edge_exact b d (at l c)).0 e)).0

-- ── edges of a cut ──
pub extent_le : (b : Board) (x : Cut) → extent b x ≤ 32
extent_le b (Row i) = omega arith
extent_le b (Column j) = omega arith

no_edge_past : (b : Board) (x : Cut) (k : ℕ) → extent b x ≤ k → k < 32 → cut_edge b x k ≡ false
no_edge_past b (Row i) k p q = not_true (cut_edge b (Row i) k) (λ e. let n = edge-near b i k Down e in omega (arith, n.1))
no_edge_past b (Column j) k p q = not_true (cut_edge b (Column j) k) (λ e. let n = edge-near b k j Right e in omega (arith, n.0))

pub edges_within : (b : Board) (x : Cut) → edges b x ≡ count (extent b x) (cut_edge b x)
edges_within b x = edges_count b x ∙ count_shorter 32 (extent b x) (cut_edge b x) (extent_le b x) (no_edge_past b x)
