-- The theorem at work on one cell with two nets from its upper left to its lower right corner: what it assumes holds somewhere.
-- Assumes nothing.
use Rattle.std.specs.Prelude.{◌≡◌, refl, ℕ, zero, suc, ◌-◌, ◌≤◌, ◌<◌}
use Rattle.std.proofs.Common.{ap, sym, subst, inl, inr, arith}
use Rattle.std.proofs.Math.Bool.{xor}
use mathlib.Core.List.{List, [], ◌∷◌, flat_map}
use Rattle.count.specs.Sum.{sum, count}
use Rattle.count.specs.Lists.{select}
use Rattle.board.specs.Board.{Board, left, right, Within, Cell, at, IsVertex, top_left, bottom_right}
use Rattle.board.specs.Degree.{below_right, below_left, above_right, above_left, vertex?, edge?, degree}
use Rattle.board.specs.declared.Vertex.{Vertex}
use Rattle.board.specs.declared.Direction.{Direction}
use Rattle.net.specs.declared.Pair.{Pair}
use Rattle.net.specs.Terminals.{terminals}
use Rattle.cut.specs.Cut.{edges, crosses, crossing, margin, overfull?, cuts, overfull_cuts}
use Rattle.cut.specs.Odd.{odd?, odd_vertices}
use Rattle.routing_rules.specs.Routing.{Routing}
use Rattle.corner.specs.Pairs.{pair}
use Rattle.board_convex.specs.Form.{Nested, NeverRegrow}
use Rattle.board_convex.proofs.Lemma1.{lemma_1}
use Rattle.corner.specs.Problem.{Problem}
use Rattle.corner.proofs.Exact.{Near, vertex_cell}
use Rattle.corner.proofs.Theorem.{routing}

abbrev cell : Board
cell = record { rows = record { left = 0; right = 1 } ∷ [] }

abbrev twice : List Pair
twice = pair (at 0 0) (at 1 1) ∷ pair (at 0 0) (at 1 1) ∷ []

cell_within : Within cell
cell_within = record { some = omega arith; few = omega arith; cells = λ i h. cells i h; fits = λ i h. fits i h }
  where
    cells : (i : ℕ) → i < 1 → left cell i < right cell i
    cells zero h = omega arith
    cells (suc i) h = absurd (omega arith)

    fits : (i : ℕ) → i < 1 → right cell i ≤ 31
    fits zero h = omega arith
    fits (suc i) h = absurd (omega arith)

cell_nested : Nested cell
cell_nested i j h k = let p : i ≡ j = omega arith in inl (omega (arith, ap (left cell) p), omega (arith, ap (right cell) p))

cell_regrow : NeverRegrow cell
cell_regrow i j k l h1 h2 h3 h4 w v = omega arith

-- its four vertices
only : Cell cell 0 0
only = record { row = omega arith; from = omega arith; to = omega arith }

corners : (P : Vertex → Type 0) → P (at 0 0) → P (at 0 1) → P (at 1 0) → P (at 1 1) → (v : Vertex) → IsVertex cell v → P v
corners P p00 p01 p10 p11 v h = let k = vertex_cell cell v h in place k.0 k.1 k.2 k.3 k.4
  where
    place : (i j : ℕ) → Near v.line i → Near v.column j → Cell cell i j → P v
    place zero zero (inl p) (inl q) k = subst P (λ t. at (sym p t) (sym q t)) p00
    place zero zero (inl p) (inr q) k = subst P (λ t. at (sym p t) (sym q t)) p01
    place zero zero (inr p) (inl q) k = subst P (λ t. at (sym p t) (sym q t)) p10
    place zero zero (inr p) (inr q) k = subst P (λ t. at (sym p t) (sym q t)) p11
    place zero (suc j) p q k = absurd (omega (arith, k.to))
    place (suc i) j p q k = absurd (omega (arith, k.row))

cell_pins : (v : Vertex) → IsVertex cell v → terminals twice v ≤ 4 - degree cell v
unfolding degree edge? above_left above_right below_left below_right terminals
cell_pins v h = corners (λ u. terminals twice u ≤ 4 - degree cell u) (omega arith) (omega arith) (omega arith) (omega arith) v h

cell_problem : Problem cell (λ v. 4 - degree cell v) twice
cell_problem = record {
  within = cell_within;
  convex = (lemma_1 cell cell_within).1 (cell_nested, cell_regrow);
  never_above = λ v h. omega arith;
  stand = ((0, 0, only, top_left), (0, 0, only, bottom_right), ((0, 0, only, top_left), (0, 0, only, bottom_right), tt));
  room = cell_pins;
}

cell_even : odd_vertices cell twice ≡ []
unfolding odd_vertices odd? select flat_map vertex? degree edge? above_left above_right below_left below_right terminals
cell_even = refl

-- both margins are 0
cell_cuts : overfull_cuts cell twice ≡ []
unfolding overfull_cuts overfull? cuts select margin edges count sum crossing crosses xor edge? above_left above_right below_left below_right
cell_cuts = refl

pub cell_routed : (dss : List (List Direction)) × Routing cell twice dss
cell_routed = routing cell twice cell_problem cell_even cell_cuts
