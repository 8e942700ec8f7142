-- One vertex: its pins and its edges are 4 together.
-- Assumes nothing: the law holds on any board, within the limits or not.
use Rattle.std.specs.Prelude.{◌≡◌, refl, Bool, true, false, ◌||◌, cond, ℕ, ◌+◌, ◌-◌, ◌*◌}
use Rattle.count.specs.Truth.{one}
use Rattle.board.specs.Board.{Board}
use Rattle.board.specs.Degree.{below_right, below_left, above_right, above_left, vertex?, edge?, degree, pins}
use Rattle.board.specs.declared.Vertex.{Vertex}

-- by the four cells at the vertex: p and q above, r and s below, p and r left, q and s right
abbrev edges : (p q r s : Bool) → ℕ
edges p q r s = (one (p || q) + one (q || s)) + (one (r || s) + one (p || r))

table : (p q r s : Bool) → cond ((p || q) || (r || s)) (4 - edges p q r s) 0 + edges p q r s ≡ 4 * one ((p || q) || (r || s))
table true true true true = refl
table true true true false = refl
table true true false true = refl
table true true false false = refl
table true false true true = refl
table true false true false = refl
table true false false true = refl
table true false false false = refl
table false true true true = refl
table false true true false = refl
table false true false true = refl
table false true false false = refl
table false false true true = refl
table false false true false = refl
table false false false true = refl
table false false false false = refl

-- "A vertex of degree d has 4 - d pins": what is no vertex has neither pins nor edges
pub pins_degree : (b : Board) (v : Vertex) → pins b v + degree b v ≡ 4 * one (vertex? b v)
unfolding pins vertex? degree edge?
pins_degree b v = table (above_left b v) (above_right b v) (below_left b v) (below_right b v)
