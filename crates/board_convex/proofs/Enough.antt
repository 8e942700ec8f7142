-- A nested board that never regrows is convex.
-- Assumes that the board is within the limits (only that no row is empty is used).
use mathlib.Core.List.{List, ◌++◌}
use Rattle.std.proofs.Math.Logic.{inl, inr}
use Rattle.std.specs.Prelude.{ℕ, ◌≤◌, ◌<◌, min, max}
use native.Mathlib.Omega.{arith}
use Rattle.board.specs.Board.{Board, Within, at}
use Rattle.board.specs.Path.{Path, turns, Convex}
use Rattle.board.specs.declared.Vertex.{Vertex}
use Rattle.board.specs.declared.Direction.{Direction}
use Rattle.board_convex.specs.Form.{Contains, Nested, NeverRegrow}
use Rattle.board_convex.proofs.Turns.{many, turns_two_runs}
use Rattle.board_convex.proofs.Places.{InRow, vertex_in_row, HasColumn}
use Rattle.board_convex.proofs.Between.{toward-contains}
use Rattle.board_convex.proofs.Runs.{path_join, Run, run_along, run_upright}

-- two straight paths, one after the other
two_runs : (b : Board) (u w v : Vertex) → Run b u w → Run b w v → (ds : List Direction) × Path b u ds v × (turns ds ≤ 1)
two_runs b u w v (d, n, p) (e, m, q) = (
  many n d ++ many m e,
  path_join (many n d) (many m e) b u w v p q,
  turns_two_runs d e n m,
)

module _ (b : Board) (W : Within b) (N : Nested b) (G : NeverRegrow b) where
  -- the column of a vertex of the smaller row leads to the line of any vertex of the larger
  columns : (i j : ℕ) (u v : Vertex) → InRow b i u → InRow b j v → Contains b i j
      → (k : ℕ) → min u.line v.line ≤ k → k < max u.line v.line → HasColumn b k v.column
  columns i j u v p q t k m n =
      let s = toward-contains b W N G i j k p.row q.row t (omega arith) (omega arith) in
      let pr = p.row in let qr = q.row in
      record { row = omega arith; from = omega arith; to = omega arith }

  -- from the larger row along the line first, and then in the column of the smaller row's vertex; or the other way round
  pub form-convex : Convex b
  unfolding Convex
  form-convex u v p q =
      let i = vertex_in_row b u p in let j = vertex_in_row b v q in
      elim (N i.0 j.0 i.1.row j.1.row) [
        | inl t ↦ first-along i.0 j.0 i.1 j.1 t
        | inr t ↦ first-upright i.0 j.0 i.1 j.1 t
      ]
    where
      first-along : (i j : ℕ) → InRow b i u → InRow b j v → Contains b i j → (ds : List Direction) × Path b u ds v × (turns ds ≤ 1)
      first-along i j x y t = two_runs b u (at u.line v.column) v
          (run_along b i u.line u.column v.column x.low x.high
          (record { row = x.row; from = x.from; to = x.to })
          (record { row = x.row; from = omega arith; to = omega arith }))
          (run_upright b W v.column u.line v.line (columns i j u v x y t))

      first-upright : (i j : ℕ) → InRow b i u → InRow b j v → Contains b j i → (ds : List Direction) × Path b u ds v × (turns ds ≤ 1)
      first-upright i j x y t = two_runs b u (at v.line u.column) v
          (run_upright b W u.column u.line v.line (λ k m n. columns j i v u y x t k (omega arith) (omega arith)))
          (run_along b j v.line u.column v.column y.low y.high
          (record { row = y.row; from = omega arith; to = omega arith })
          (record { row = y.row; from = y.from; to = y.to }))
