-- `assemble` writes `path_d`; the number of later divisions falls. Each way is one case of its definition.
use Rattle.std.proofs.Common.{arith, refl, inl, inr}
use Rattle.router_trace.specs.Walks.{path-none, path-whole, path-parted}
use Rattle.router_trace.proofs.+assemble.Goals as goal
use Rattle.router_trace.proofs.+assemble.Goals.{then-h-gt0+then-h-lt-LAST_PAIR, else-h-gt0}
use Rattle.router_trace.proofs.+assemble.Goals.{else-h-gt0-via-then-h-gt0+else-h-lt-LAST_PAIR, else-h-gt0-via-else-h-gt0}

pub returns-then-later-eq0 : goal.returns-then-later-eq0
returns-then-later-eq0 t c =
    let a = c.args in let m = a.notes.now in
    path-none m.side m.vert m.half m.start m.end m.to_corner m.from_corner a.k a.at _ _ _ a.out.now refl refl refl a.later c.if-later-eq0.true

pub returns : goal.returns
returns t c =
    let a = c.args in let m = a.notes.now in
    elim c.if-h-gt0.branch [
      | then-h-gt0+then-h-lt-LAST_PAIR w ↦ path-parted m.side m.vert m.half m.start m.end m.to_corner m.from_corner a.k a.at c.from-a.result
          c.from-b.result c.from-h.result a.out.now c.from-a.ensures c.from-b.ensures c.from-h.ensures a.later _ _ c.if-later-eq0.false
          (λ e. omega (arith, e, w.if-h-gt0.true)) w.if-h-lt-LAST_PAIR.true refl refl c.fore-end.ensures w.assemble-end.ensures
          w.put-end.ensures w.put-end-then-h-lt-LAST_PAIR.ensures w.assemble-end-then-h-lt-LAST_PAIR.ensures
          (rw (w.out-is, w.end-is) at c.back.ensures)
      | else-h-gt0 w ↦ path-whole m.side m.vert m.half m.start m.end m.to_corner m.from_corner a.k a.at c.from-a.result c.from-b.result
          c.from-h.result a.out.now c.from-a.ensures c.from-b.ensures c.from-h.ensures a.later c.if-later-eq0.false
          (elim w.else-h-gt0.branch [
            | else-h-gt0-via-then-h-gt0+else-h-lt-LAST_PAIR v ↦ inr v.if-h-lt-LAST_PAIR.false
            | else-h-gt0-via-else-h-gt0 v ↦ inl (omega (arith, v.if-h-gt0.false))
          ])
          c.fore-end.ensures (rw (w.out-is, w.end-is) at c.back.ensures)
    ]
