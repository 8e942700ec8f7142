-- `is_odd` is the definition: a count and its remainder by 2 make the same sum odd.
use mathlib.Core.Path.{◌≡◌, refl}
use Prim.Native.Nat.{◌+◌, ◌%◌}
use native.Mathlib.Omega.{arith}
use Rattle.cut_search.proofs.is_odd.Goals as goal

pub returns-then-is_vertex : goal.returns-then-is_vertex
returns-then-is_vertex c = let n = c.args.terminals in let d = c.degree_of.result in
    let e : (d + n % 2) % 2 ≡ (d + n) % 2 = omega arith in
    rw (← c.is_vertex.ensures.same, c.if-is_vertex.true, ← c.degree_of.ensures.value, e) refl

pub returns-else-is_vertex : goal.returns-else-is_vertex
returns-else-is_vertex c = rw (← c.is_vertex.ensures.same, c.if-is_vertex.false) refl
