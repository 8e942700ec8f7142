-- No second end, or the two pairs part, by the laws of Went.
use Rattle.std.proofs.Common.{inl, inr, ap, ◌∙◌}
use Rattle.router_ends.specs.Went.{no-second, parts}
use Rattle.router_ends.proofs.two_ends.Goals as goal
use Rattle.router_ends.proofs.two_ends.Goals.{then-swaps, else-swaps}

pub returns-then-j-w-clause-two_ends : goal.returns-then-j-w-clause-two_ends
returns-then-j-w-clause-two_ends c =
    let a = c.args in
    no-second a.table.now a.notes.now a.lines.now a.w a.i a.line a.x c.word-from.result c.first_at-j.result c.requires.0 c.word-from.ensures.0
    c.first_at-j.ensures c.if-j-w.true

pub returns-clause-two_ends : goal.returns-clause-two_ends
returns-clause-two_ends c =
    let a = c.args in
    parts a.table.now a.notes.now a.lines.now a.w a.i a.line a.x c.word-from.result c.first_at-j.result c.requires.0 c.word-from.ensures.0
    c.first_at-j.ensures c.if-j-w.false c.below-bul.result c.from-s.result c.from-t.result c.below-bul.ensures
    (c.from-s.ensures ∙ c.far.ensures) (c.from-t.ensures ∙ c.far-2.ensures) c.swaps.result _ _ c.swaps.ensures
    (elim c.if-swaps.branch [
      | then-swaps w ↦ inl (w.if-swaps.true, ap (λ p. p.0) w.right-is, ap (λ p. p.1) w.right-is)
      | else-swaps w ↦ inr (w.if-swaps.false, ap (λ p. p.0) w.right-is, ap (λ p. p.1) w.right-is)
    ])
    (rw c.from-up.ensures at c.split.ensures) c.shorten.ensures
