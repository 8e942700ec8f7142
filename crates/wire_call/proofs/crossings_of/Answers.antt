-- The loop sums the nets that cross the first i rows or columns.
use Rattle.std.proofs.Common.{◌≡◌, sym, ap, ◌∙◌, ℕ, add-one, arith}
use Rattle.count.specs.Sum.{sum_zero, sum_suc}
use Rattle.net.specs.View.{pairs_of}
use Rattle.cut.specs.Cut.{crossing}
use Rattle.wire_call.proofs.crossings_of.Goals as goal

pub loop-i-init : goal.loop-i-init
loop-i-init g c = (omega arith, sym (sum_zero (λ i. crossing (g.x i) (pairs_of c.args.nets))))

pub overflow_add-sum : goal.overflow_add-sum
overflow_add-sum g c = omega (arith, c.crossing_nets-sum.ensures.upper_bound)

pub loop-i-preserved : goal.loop-i-preserved
loop-i-preserved g c =
    let loop = c.loop-i in let e = c.crossing_nets-sum.ensures in
    let f : ℕ → ℕ = λ i. crossing (g.x i) (pairs_of c.args.nets) in
    let same : c.crossing_nets-sum.result ≡ f loop.i =
    e.value ∙ ap (λ y. crossing y (pairs_of c.args.nets)) (c.requires.1.1 loop.i _ c.cut_at.ensures) in (
      omega (arith, e.upper_bound),
      rw (add-one loop.i) (omega (arith, sum_suc loop.i f, loop.invariant.1)),
    )

pub returns : goal.returns
returns g c =
    let all : c.loop-i.i ≡ c.args.n = omega arith in
    record { value = rw all at c.loop-i.invariant.1; upper_bound = omega arith }
