use Rattle.cut.specs.Laws.{overfull_exact, margin_tally}
use Rattle.cut.specs.Cut.{overfull?}
use Rattle.net.specs.View.{pairs_of}
use Rattle.board.specs.View.{board_of}
use Rattle.count.specs.TruthLaws.{decides}
use lib.Signed.{lt_z}
use lib.IntN.{ℤ, pos}
use mathlib.Core.Path.{◌∙◌, ap}
use Rattle.cut.proofs.is_overfull.Goals as goal

pub returns : goal.returns
unfolding overfull?
returns c =
    let b = board_of c.args.b in let ps = pairs_of c.args.nets in let x = c.args.x in
    decides _ (overfull? b ps x) (overfull_exact b ps x)
    (c.is_short.ensures ∙ ap (λ (z : ℤ). lt_z z (pos 0)) (margin_tally b ps x c.tally_of.result c.tally_of.ensures))
