-- The loop counts the edges at the first k lines or columns; past the cut's extent there is none.
use Rattle.cut.specs.Tally.{cut_edge}
use Rattle.cut.specs.Extent.{extent}
use Rattle.cut.specs.Past.{extent_le, edges_within}
use Rattle.board.specs.View.{board_of}
use Rattle.count.specs.Sum.{count, count_zero, count_suc, count_le}
use mathlib.Core.Path.{◌≡◌, sym, ◌∙◌}
use Prim.Native.Nat.{suc, ◌+◌}
use native.Mathlib.Numerals.{add-one}
use native.Mathlib.Omega.{arith}
use Rattle.cut.proofs.edges_of.Goals as goal

pub loop-k-init : goal.loop-k-init
loop-k-init c = let args = c.args in (
  omega arith,
  omega (arith, c.extent_of-end.ensures, extent_le (board_of args.b) args.x),
  sym (count_zero (cut_edge (board_of args.b) args.x)),
)

pub overflow_add-n : goal.overflow_add-n
overflow_add-n c = let f = cut_edge (board_of c.args.b) c.args.x in let loop = c.loop-k in
    let e : loop.n + c.from-n.result ≡ count (suc loop.k) f = rw (count_suc loop.k f) (cc) in
    omega (arith, e, count_le (suc loop.k) f)

pub loop-k-preserved : goal.loop-k-preserved
loop-k-preserved c = let args = c.args in let loop = c.loop-k in
    (omega arith, loop.invariant.1, rw (add-one loop.k, count_suc loop.k (cut_edge (board_of args.b) args.x)) (cc))

pub returns : goal.returns
returns c = let args = c.args in let loop = c.loop-k in
    let b = board_of args.b in let end = c.extent_of-end.ensures in
    let e : loop.k ≡ extent b args.x = omega arith in
    let f : loop.n ≡ count (extent b args.x) (cut_edge b args.x) = rw e at loop.invariant.2 in
    record {
      value = f ∙ sym (edges_within b args.x);
      upper_bound = omega (arith, count_le loop.k (cut_edge b args.x));
    }
