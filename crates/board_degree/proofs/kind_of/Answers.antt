-- The four cells, asked one by one, are those that the definition counts.
use mathlib.Core.Path.{refl, ◌∙◌}
use Rattle.board_convex.specs.Cells.{cells_at}
use Rattle.board_degree.specs.Kind.{opposite?, kind_of}
use Rattle.board_degree.proofs.kind_of.Goals as goal

pub returns : goal.returns
unfolding kind_of cells_at opposite?
returns c =
    let at-below-right = c in let at-below-left = at-below-right in
    let at-above-right = at-below-left in let at-above-left = at-above-right in
    c.kind_by.ensures ∙ rw (
      c.from-4.ensures,
      c.from-3.ensures,
      c.from-2.ensures,
      c.from.ensures,
      at-below-right.below_right-br.ensures,
      at-below-left.below_left-bl.ensures,
      at-above-right.above_right-ar.ensures,
      at-above-left.above_left-al.ensures,
    ) refl
