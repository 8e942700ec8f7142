-- Each way out is a step or a way to be stuck, by the laws of Divided.
use Rattle.std.proofs.Common.{arith, ap, refl, ◌%◌}
use Rattle.router_bare.specs.Divided.{near-stuck, near-cut, nul-stuck, nul-cut, add-helper, leave_le}
use Rattle.router_bare.proofs.no_end.Goals as goal

pub returns-then-i-w-clause-no_ends : goal.returns-then-i-w-clause-no_ends
returns-then-i-w-clause-no_ends c =
    let a = c.args in
    near-stuck a.table.now a.notes.now a.lines.now a.w a.line a.x c.word-from.result _ c.below-bul.result c.word-from.ensures.0 refl
    c.below-bul.ensures _ c.shorten.ensures c.crossing.result c.crossing.ensures c.if-crossing-w.true c.least-i.result c.least-i.ensures
    c.if-i-w.true

pub returns-then-crossing-w-clause-no_ends : goal.returns-then-crossing-w-clause-no_ends
returns-then-crossing-w-clause-no_ends c =
    let a = c.args in
    near-cut a.table.now a.notes.now a.lines.now a.w a.line a.x c.word-from.result _ c.below-bul.result c.word-from.ensures.0 refl
    c.below-bul.ensures _ c.shorten.ensures c.crossing.result c.crossing.ensures c.if-crossing-w.true c.least-i.result c.least-i.ensures
    c.if-i-w.false _ (ap (λ z. z % 32) c.from-c.ensures) _ _ _ c.cut_row.ensures

pub overflow_add-leaving : goal.overflow_add-leaving
overflow_add-leaving c = let a = c.args in omega (arith, c.leaving.ensures, leave_le a.table.now.first a.table.now.second a.line a.w.n)

pub returns-then-i-w-2-clause-no_ends : goal.returns-then-i-w-2-clause-no_ends
returns-then-i-w-2-clause-no_ends c =
    let a = c.args in
    nul-stuck a.table.now a.notes.now a.lines.now a.w a.line a.x c.word-from.result _ c.below-bul.result c.word-from.ensures.0 refl
    c.below-bul.ensures _ c.shorten.ensures c.crossing.result c.crossing.ensures c.if-crossing-w.false c.leaving.result c.from.result
    c.leaving.ensures (rw c.shorten.ensures at c.from.ensures) c.if-leaving-x.true c.first_at-i.result c.first_at-i.ensures c.if-i-w-2.true

pub returns-then-leaving-x-clause-no_ends : goal.returns-then-leaving-x-clause-no_ends
returns-then-leaving-x-clause-no_ends c =
    let a = c.args in
    nul-cut a.table.now a.notes.now a.lines.now a.w a.line a.x c.word-from.result _ c.below-bul.result c.word-from.ensures.0 refl
    c.below-bul.ensures _ c.shorten.ensures c.crossing.result c.crossing.ensures c.if-crossing-w.false c.leaving.result c.from.result
    c.leaving.ensures (rw c.shorten.ensures at c.from.ensures) c.if-leaving-x.true c.first_at-i.result c.first_at-i.ensures c.if-i-w-2.false
    _ _ _ c.cut_row-then-leaving-x.ensures

pub returns-clause-no_ends : goal.returns-clause-no_ends
returns-clause-no_ends c =
    let a = c.args in
    add-helper a.table.now a.notes.now a.lines.now a.w a.line a.x c.word-from.result _ c.below-bul.result c.word-from.ensures.0 refl
    c.below-bul.ensures _ c.shorten.ensures c.crossing.result c.crossing.ensures c.if-crossing-w.false c.leaving.result c.from.result
    c.leaving.ensures (rw c.shorten.ensures at c.from.ensures) c.if-leaving-x.false c.add.ensures
