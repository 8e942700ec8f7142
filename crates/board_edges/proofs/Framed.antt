-- The edge count of a board as a sum over lines and columns 0 to 31; within the limits it is at most 1,984.
-- Assumes that the board is within the limits, from "at most" on.
use Rattle.std.specs.Prelude.{◌≡◌, refl, Bool, map, ℕ, suc, ◌+◌, ◌≤◌, ltb, length}
use Rattle.std.proofs.Common.{ap, ◌∙◌, inl, inr, arith, lt-ltb}
use Rattle.count.specs.Truth.{one}
use Rattle.count.specs.TruthLaws.{bool}
use Rattle.count.specs.Lists.{up_to, select, tally}
use Rattle.count.specs.Tallies.{tally_map, tally_flat, selected}
use Rattle.count.specs.Sum.{sum, sum_eq}
use Rattle.board.specs.Board.{Board, Within, at}
use Rattle.board.specs.Path.{along}
use Rattle.board.specs.Degree.{edge?}
use Rattle.board.specs.Order.{reading_order}
use Rattle.board.specs.Tests.{edge_exact}
use Rattle.board.specs.declared.Vertex.{Vertex}
use Rattle.board.specs.declared.Direction.TheVariants.{Right, Down}
use Rattle.board_pins.specs.Pins.{frame_sum}
use Rattle.board_pins.proofs.Frame.{frame_le, frame_add}
use Rattle.board_edges.specs.EdgeCount.{edges_going, edge_count}
use Rattle.board_edges.proofs.Spans.{edge_spans}

-- ── any board ──
-- what passes a test in reading order, counted over the frame
pub count_framed : (t : Vertex → Bool) → length (select t reading_order) ≡ frame_sum (λ v. one (t v))
unfolding frame_sum
count_framed t =
    let f : Vertex → ℕ = λ v. one (t v) in
    selected t reading_order
    ∙ (tally_flat f (λ l. map (at l) (up_to 32)) 32
    ∙ sum_eq 32 (λ l. tally f (map (at l) (up_to 32))) (λ l. sum 32 (λ c. f (at l c))) (λ l h. tally_map f (at l) 32))

-- DEFINITION: the edges that lead right and down from a place
abbrev pub edges_leading : Board → Vertex → ℕ
edges_leading b v = one (edge? b Right v) + one (edge? b Down v)

pub edge_count_framed : (b : Board) → edge_count b ≡ frame_sum (edges_leading b)
unfolding edge_count edges_going
edge_count_framed b = omega (
  arith,
  count_framed (edge? b Right),
  count_framed (edge? b Down),
  frame_add (λ v. one (edge? b Right v)) (λ v. one (edge? b Down v)),
)

-- ── at most 1,984 ──
-- DEFINITION: how many edges can lead right and down from a place: none right from column 31 or down from line 31
abbrev roomy : Vertex → ℕ
roomy v = one (ltb v.column 31) + one (ltb v.line 31)

right_roomy : (b : Board) → Within b → (v : Vertex) → one (edge? b Right v) ≤ one (ltb v.column 31)
right_roomy b w v = elim (bool (edge? b Right v)) [
  | inr e ↦ omega (arith, ap one e)
  | inl e ↦ elim (edge_spans b w (along Right v) ((edge_exact b Right v).0 e)) [
    | inl a ↦ omega (arith, ap one e, ap one (lt-ltb v.column 31 a.column))
    | inr a ↦ absurd (let k : suc v.column ≡ v.column = ap (λ (u : Vertex). u.column) a.to in omega arith)
  ]
]

down_roomy : (b : Board) → Within b → (v : Vertex) → one (edge? b Down v) ≤ one (ltb v.line 31)
down_roomy b w v = elim (bool (edge? b Down v)) [
  | inr e ↦ omega (arith, ap one e)
  | inl e ↦ elim (edge_spans b w (along Down v) ((edge_exact b Down v).0 e)) [
    | inl a ↦ absurd (let k : suc v.line ≡ v.line = ap (λ (u : Vertex). u.line) a.to in omega arith)
    | inr a ↦ omega (arith, ap one e, ap one (lt-ltb v.line 31 a.line))
  ]
]

all-roomy : frame_sum roomy ≡ 1984
unfolding frame_sum sum
all-roomy = refl

pub edges_most : (b : Board) → Within b → edge_count b ≤ 1984
edges_most b w = omega (
  arith,
  edge_count_framed b,
  all-roomy,
  frame_le (edges_leading b) roomy (λ v. omega (arith, right_roomy b w v, down_roomy b w v)),
)
