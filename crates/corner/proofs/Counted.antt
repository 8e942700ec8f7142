-- The counts of crates net and cut are counts over sets of vertices: terminals at a vertex, and nets that cross a cut.
-- Assumes nothing.
use Rattle.std.specs.Prelude.{◌≡◌, Bool, true, false, ℕ, ◌-◌, ◌≤◌}
use Rattle.std.proofs.Math.Path.{refl, ap}
use Rattle.std.proofs.Math.Bool.{xor}
use mathlib.Core.List.{List, [], ◌∷◌}
use Rattle.std.proofs.Common.{inl, inr, arith}
use Rattle.count.specs.Truth.{one}
use Rattle.count.specs.TruthLaws.{bool}
use Rattle.board.specs.Board.{Board, IsVertex}
use Rattle.board.specs.Degree.{vertex?, degree, pins}
use Rattle.board.specs.Tests.{vertex_exact}
use Rattle.board.specs.declared.Vertex.{Vertex}
use Rattle.net.specs.declared.Pair.{Pair}
use Rattle.net.specs.Terminals.{same, terminals}
use Rattle.cut.specs.declared.Cut.{Cut}
use Rattle.cut.specs.Cut.{side, crosses, crossing}
use Rattle.corner.specs.Pairs.{apart, tally, All, leaving, standing}
use Rattle.net.specs.Same.{same_self, same_sym}

pub terminals_standing : (ps : List Pair) (v : Vertex) → terminals ps v ≡ standing (same v) ps
unfolding terminals standing tally
terminals_standing [] v = refl
terminals_standing (p ∷ ps) v = omega (arith, terminals_standing ps v, ap one (same_sym p.first v), ap one (same_sym p.second v))

xor_apart : (a b : Bool) → one (xor a b) ≡ apart a b
unfolding xor
xor_apart true true = refl
xor_apart true false = refl
xor_apart false true = refl
xor_apart false false = refl

pub crossing_leaving : (X : Cut) (ps : List Pair) → crossing X ps ≡ leaving (side X) ps
unfolding crossing crosses leaving tally
crossing_leaving X [] = refl
crossing_leaving X (p ∷ ps) = omega (arith, crossing_leaving X ps, xor_apart (side X p.first) (side X p.second))

on_vertex : (b : Board) (v : Vertex) → 1 ≤ pins b v → IsVertex b v
unfolding pins
on_vertex b v h = elim (bool (vertex? b v)) [
  | inl e ↦ (vertex_exact b v).0 e
  | inr e ↦ absurd (let z : pins b v ≡ 0 = rw e refl in omega arith)
]

-- Whatever count of pins each vertex has, never above the board's own: where no vertex has more terminals than pins,
module _ (b : Board) (P : Vertex → ℕ) (few : (v : Vertex) → P v ≤ pins b v) where
  -- every terminal stands on a vertex, since there is no pin elsewhere,
  pub pins-stand : (ps : List Pair) → ((v : Vertex) → terminals ps v ≤ P v) → All (IsVertex b) ps
  unfolding terminals
  pins-stand [] h = tt
  pins-stand (p ∷ ps) h = (
    on_vertex b p.first (omega (arith, h p.first, few p.first, ap one (same_self p.first))),
    on_vertex b p.second (omega (arith, h p.second, few p.second, ap one (same_self p.second))),
    pins-stand ps (λ v. omega (arith, h v)),
  )

  -- and no vertex has more pins than 4 minus its degree
  pub pins-never-above : (v : Vertex) → IsVertex b v → P v ≤ 4 - degree b v
  unfolding pins
  pins-never-above v k = let e : pins b v ≡ 4 - degree b v = rw ((vertex_exact b v).1 k) refl in omega (arith, few v)
