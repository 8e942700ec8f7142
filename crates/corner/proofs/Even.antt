-- No vertex is odd: what that says of the degree and the terminals of each vertex.
-- Assumes that the board is within the limits.
use Rattle.std.specs.Prelude.{◌≡◌, refl, false, List, [], map, ◌+◌, ◌≤◌}
use Rattle.std.proofs.Common.{◌∙◌, sym, inl, inr, arith}
use Rattle.count.specs.TruthLaws.{bool, clash}
use Rattle.count.specs.Lists.{up_to}
use Rattle.board.specs.Board.{Board, Within, at, IsVertex}
use Rattle.board.specs.Degree.{vertex?, degree}
use Rattle.board.specs.Tests.{vertex_exact}
use Rattle.board.specs.declared.Vertex.{Vertex}
use Rattle.net.specs.declared.Pair.{Pair}
use Rattle.net.specs.Terminals.{terminals}
use Rattle.cut.specs.Odd.{odd?, odd_vertices}
use Rattle.board.specs.Order.{reading_order}
use Rattle.count.specs.Parity.{odd_number, odd_case}
use Rattle.count.specs.Each.{Each, each_up_to, up_to_each, each_map, map_each, each_flat_map, flat_map_each, select_none, none_select}
use Rattle.corner.specs.Problem.{AllEven}
use Rattle.corner.proofs.Overfull.{vertex_frame}

-- every place of the frame is looked at
pub order_each : (P : Vertex → Type 0) → Each P reading_order → (v : Vertex) → v.line ≤ 31 → v.column ≤ 31 → P v
order_each P e v h k =
    let r = up_to_each (λ l. Each P (map (at l) (up_to 32))) 32 (flat_map_each P (λ l. map (at l) (up_to 32)) (up_to 32) e) v.line (omega arith) in
    up_to_each (λ c. P (at v.line c)) 32 (map_each P (at v.line) (up_to 32) r) v.column (omega arith)

pub each_order : (P : Vertex → Type 0) → ((v : Vertex) → P v) → Each P reading_order
each_order P h = each_flat_map P (λ l. map (at l) (up_to 32)) (up_to 32)
    (each_up_to (λ l. Each P (map (at l) (up_to 32))) 32 (λ l i. each_map P (at l) (up_to 32) (each_up_to (λ c. P (at l c)) 32 (λ c j. h (at l c)))))

-- the test at a vertex
pub odd-at : (b : Board) (ps : List Pair) (v : Vertex) → IsVertex b v → odd? b ps v ≡ odd_number (degree b v + terminals ps v)
unfolding odd? odd_number
odd-at b ps v h = rw ((vertex_exact b v).1 h) refl

pub odd_off : (b : Board) (ps : List Pair) (v : Vertex) → vertex? b v ≡ false → odd? b ps v ≡ false
unfolding odd?
odd_off b ps v h = rw h refl

pub all_even : (b : Board) (ps : List Pair) → Within b → odd_vertices b ps ≡ [] → AllEven b ps
unfolding odd_vertices
all_even b ps W e v h =
    let f = vertex_frame b W v h in
    let o = order_each (λ u. odd? b ps u ≡ false) (select_none (odd? b ps) reading_order e) v (omega (arith, W.few)) f.1 in
    elim (odd_case (degree b v + terminals ps v)) [
      | inl k ↦ (k.0, k.1)
      | inr k ↦ absurd (clash k.2 (sym (odd-at b ps v h) ∙ o))
    ]

pub none_odd : (b : Board) (ps : List Pair) → AllEven b ps → odd_vertices b ps ≡ []
unfolding odd_vertices
none_odd b ps h = none_select (odd? b ps) reading_order (each_order (λ v. odd? b ps v ≡ false) (λ v. elim (bool (vertex? b v)) [
  | inl e ↦
      let k = (vertex_exact b v).0 e in
      elim (odd_case (degree b v + terminals ps v)) [
        | inl m ↦ odd-at b ps v k ∙ m.2
        | inr m ↦ absurd (omega (arith, m.1, (h v k).1))
      ]
  | inr e ↦ odd_off b ps v e
]))
