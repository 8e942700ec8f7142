-- Rows and columns are all the cuts.
use Rattle.std.proofs.Common.{◌≡◌, ℕ, ap, sym, arith}
use Rattle.count.specs.Sum.{sum}
use Rattle.board.specs.Board.{height}
use Rattle.board.specs.View.{board_of}
use Rattle.board.specs.ViewLaws.{height_of}
use Rattle.net.specs.View.{pairs_of}
use Rattle.cut.specs.Cut.{crossing}
use Rattle.cut.specs.declared.Cut.TheVariants.{Row}
use Rattle.routing_laws.proofs.CrossingSum.{crossing-sum}
use Rattle.wire_call.proofs.crossings.Goals as goal

pub returns : goal.returns
returns c =
    let args = c.args in let ps = pairs_of args.nets in let f : ℕ → ℕ = λ i. crossing (Row i) ps in
    let rows : sum args.b.count f ≡ sum (height (board_of args.b)) f = ap (λ (k : ℕ). sum k f) (sym (height_of args.b)) in
    omega (arith, c.crossings_of.ensures.value, c.crossings_of-2.ensures.value, rows, crossing-sum (board_of args.b) ps)
