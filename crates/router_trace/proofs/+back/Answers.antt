-- `back` writes `back_d`; the fuel falls. Each `return` is one case of its definition.
use Rattle.std.proofs.Common.{arith, refl, sym}
use Rattle.router_trace.specs.Walks.{back_none, back-stop, back_step}
use Rattle.router_trace.proofs.+back.Goals as goal

pub returns-then-fuel-eq0 : goal.returns-then-fuel-eq0
returns-then-fuel-eq0 t c = let a = c.args in back_none a.notes.now.side a.notes.now.vert a.k a.l a.c 0 a.at a.out.now a.fuel c.if-fuel-eq0.true

pub returns-in_default : goal.returns-in_default
returns-in_default t c =
    let a = c.args in back-stop a.notes.now.side a.notes.now.vert a.k a.l a.c 4 a.at a.out.now a.fuel (sym c.in_default.ensures.hop) refl

pub returns : goal.returns
returns t c =
    let a = c.args in let d = c.in-Some.d in let h = c.in-Some.ensures in
    back_step a.notes.now.side a.notes.now.vert a.k a.l a.c d a.at a.out.now a.fuel c.line_after.result c.column_after.result c.opposite.result
    c.if-fuel-eq0.false h.hop.0 (λ e. omega (arith, e, h.hop.1)) c.line_after.ensures c.column_after.ensures c.opposite.ensures
    c.back-end.ensures c.put.ensures
