-- The lines of a convex board are a shape with the board's vertices, edges, degrees and cuts.
-- Assumes that the board is within the limits, that of any two rows one contains the other, and that widths never shrink and then grow again.
use Rattle.std.specs.Prelude.{◌≡◌, refl, ◌&&◌, ℕ, suc, pred, ◌≤◌, ◌<◌, min, leb}
use Rattle.std.proofs.Common.{ap, ◌∙◌, sym, inl, inr, arith, leb-true, le-leb}
use Rattle.count.specs.Truth.{one}
use Rattle.count.specs.TruthLaws.{not_true, bool_eq, and_true, and_yes, le_or_lt, eq_or_ne}
use Rattle.board.specs.Board.{Board, height, left, right, Within, Cell, at, IsVertex}
use Rattle.board.specs.Degree.{edge?, degree}
use Rattle.board.specs.declared.Vertex.{Vertex}
use Rattle.board.specs.declared.Direction.TheVariants.{Right, Down}
use Rattle.cut.specs.declared.Cut.{Cut}
use Rattle.cut.specs.Cut.{edges}
use Rattle.board_convex.specs.Form.{Nested, width, NeverRegrow}
use Rattle.corner.specs.Shape.{last, Shape, present, Here, deg, cap, Shaped}
use Rattle.corner.proofs.Presence.{present_yes, present_true}
use Rattle.corner.specs.Trails.{Link, hor, ver, joined}
use Rattle.corner.proofs.Needed.{cap_of_ext, cap-of}
use Rattle.corner.proofs.Around.{around_ext, around_deg}
use Rattle.corner.proofs.Exact.{level, level_edge, upright, upright_edge, right_exact, down_exact, Near, vertex_cell, cell_vertex}
use Rattle.corner.specs.Links.{on_board}
use Rattle.corner.proofs.LinkLaws.{degree_around, edges_cap}
use Rattle.corner.proofs.Rows.{Stack, lines, line_row, lines-shaped, vertical, horizontal, horizontal-back}

abbrev pub lines_of : Board → Shape
lines_of b = lines (pred (height b)) (left b) (right b)

-- a line of which r is a row
near : (l r : ℕ) → pred l ≤ r → r ≤ l → Near l r
near l r h k = elim (eq_or_ne l r) [ inl e ↦ inl e | inr e ↦ inr (omega (arith, e)) ]

-- a column of a row has a cell on its right or on its left
column_cell : (b : Board) (i c : ℕ) → i < height b → left b i < right b i → left b i ≤ c → c ≤ right b i → (j : ℕ) × Near c j × Cell b i j
column_cell b i c h w f t = elim (le_or_lt (right b i) c) [
  | inl e ↦ (pred c, inr (omega arith), record { row = h; from = omega arith; to = omega arith })
  | inr e ↦ (c, inl refl, record { row = h; from = f; to = e })
]

near_cell : (b : Board) (i j c : ℕ) → Near c j → Cell b i j → (left b i ≤ c) × (c ≤ right b i)
near_cell b i j c (inl e) k = (omega (arith, k.from), omega (arith, k.to))
near_cell b i j c (inr e) k = (omega (arith, k.from), omega (arith, k.to))

module _ (b : Board) (W : Within b) (N : Nested b) (M : NeverRegrow b) where
  waist : (i j k : ℕ) → i < j → j < k → k ≤ pred (height b) → min (width b i) (width b k) ≤ width b j
  waist i j k h1 h2 h3 = elim (le_or_lt (min (width b i) (width b k)) (width b j)) [
    | inl h ↦ h
    | inr h ↦ absurd (M i j j k h1 (omega arith) h2 (omega (arith, W.some)) (omega arith) (omega arith))
  ]

  stack : Stack (pred (height b)) (left b) (right b)
  unfolding last
  stack = record {
    few = omega (arith, W.few, W.some);
    cells = λ i h. W.cells i (omega (arith, W.some));
    fits = λ i h. W.fits i (omega (arith, W.some));
    nested = λ i j h k. N i j (omega (arith, W.some)) (omega (arith, W.some));
    waist = waist;
  }

  pub shaped : Shaped (lines_of b)
  shaped = lines-shaped (pred (height b)) (left b) (right b) stack

  -- ── vertices ──
  pub here-vertex : (v : Vertex) → Here (lines_of b) v → IsVertex b v
  here-vertex v h =
      let r = line_row (pred (height b)) (left b) (right b) stack v.line h.high in
      let i : r.0 < height b = omega (arith, r.1, W.some) in
      let k = column_cell b r.0 v.column i (W.cells r.0 i) (omega (arith, h.from, r.4)) (omega (arith, h.to, r.5)) in
      cell_vertex b v r.0 k.0 (near v.line r.0 r.2 r.3) k.1 k.2

  pub vertex-here : (v : Vertex) → IsVertex b v → Here (lines_of b) v
  vertex-here v h =
      let k = vertex_cell b v h in let t = near_cell b k.0 k.1 v.column k.3 k.4 in let r = k.4.row in elim k.2 [
        | inl e ↦
            let q : min v.line (pred (height b)) ≡ k.0 = omega arith in
            record { low = omega arith; high = omega arith; from = omega (arith, ap (left b) q, t); to = omega (arith, ap (right b) q, t) }
        | inr e ↦
            let q : pred v.line ≡ k.0 = omega arith in
            record { low = omega arith; high = omega arith; from = omega (arith, ap (left b) q, t); to = omega (arith, ap (right b) q, t) }
      ]

  -- ── edges ──
  level-joined : (l c : ℕ) → joined (lines_of b) (hor l c) ≡ edge? b Right (at l c)
  level-joined l c = bool_eq (joined (lines_of b) (hor l c)) (edge? b Right (at l c))
      (λ e.
      let k = and_true (present (lines_of b) l c) (present (lines_of b) l (suc c)) e in
      let r = horizontal (pred (height b)) (left b) (right b) stack l c k.0 k.1 in
      (right_exact b l c).1 (level_edge b l c r.0 (near l r.0 r.2 r.3)
      (record { row = omega (arith, r.1, W.some); from = r.4; to = r.5 })))
      (λ e.
      let k = level b l c ((right_exact b l c).0 e) in
      let r = horizontal-back (pred (height b)) (left b) (right b) stack k.0 l c (omega (arith, k.2.row)) k.1 k.2.from k.2.to in
      and_yes _ _ r.0 r.1)

  row-column : (l c : ℕ) → l < height b → (leb (left b l) c && leb c (right b l)) ≡ edge? b Down (at l c)
  row-column l c h = bool_eq (leb (left b l) c && leb c (right b l)) (edge? b Down (at l c))
      (λ e.
      let k = and_true (leb (left b l) c) (leb c (right b l)) e in
      let m = column_cell b l c h (W.cells l h) (leb-true (left b l) c k.0) (leb-true c (right b l) k.1) in
      (down_exact b l c).1 (upright_edge b l c m.0 m.1 m.2))
      (λ e.
      let k = upright b l c ((down_exact b l c).0 e) in let t = near_cell b l k.0 c k.1 k.2 in
      and_yes _ _ (le-leb (left b l) c t.0) (le-leb c (right b l) t.1))

  upright-joined : (l c : ℕ) → joined (lines_of b) (ver l c) ≡ edge? b Down (at l c)
  upright-joined l c = elim (le_or_lt (height b) l) [
    | inl h ↦ not_true (joined (lines_of b) (ver l c)) (λ e.
        let k = present_true (lines_of b) (suc l) c (and_true (present (lines_of b) l c) (present (lines_of b) (suc l) c) e).1 in
        omega (arith, k.high, W.some))
        ∙ sym (not_true (edge? b Down (at l c)) (λ e. omega (arith, (upright b l c ((down_exact b l c).0 e)).2.row)))
    | inr h ↦ vertical (pred (height b)) (left b) (right b) stack l c (omega (arith, W.some)) ∙ row-column l c h
  ]

  pub joined-board : (e : Link) → joined (lines_of b) e ≡ on_board b e
  joined-board (hor l c) = level-joined l c
  joined-board (ver l c) = upright-joined l c

  -- ── counts ──
  pub deg-degree : (v : Vertex) → IsVertex b v → deg (present (lines_of b)) v.line v.column ≡ degree b v
  deg-degree v h =
      let p = present_yes (lines_of b) v.line v.column (vertex-here v h) in
      sym (around_deg (lines_of b) v.line v.column p)
      ∙ around_ext (λ e. one (joined (lines_of b) e)) (λ e. one (on_board b e)) (λ e. ap one (joined-board e)) v.line v.column
      ∙ sym (degree_around b v.line v.column)

  pub cap-edges : (X : Cut) → cap (present (lines_of b)) X ≡ edges b X
  cap-edges X = cap-of (lines_of b) X ∙ cap_of_ext (joined (lines_of b)) (on_board b) joined-board X ∙ sym (edges_cap b X)
