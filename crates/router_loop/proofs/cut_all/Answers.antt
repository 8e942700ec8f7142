-- After t passes the start leads to the run at hand, and t vertices are gone; one pass more is the law pass.
use Rattle.std.proofs.Common.{arith, refl, ◌∙◌}
use Rattle.router_ends.specs.View.{run}
use Rattle.router_loop.specs.Loop.{after_none, all_done, goes-on, pass, ended}
use Rattle.router_loop.proofs.cut_all.Goals as goal

pub loop-t-init : goal.loop-t-init
loop-t-init c =
    let a = c.args in record {
      top = c.requires.0;
      bottom = c.requires.1;
      pairs = c.requires.2;
      next = c.requires.3;
      low = c.requires.4;
      kept = refl;
      after = after_none (run a.table.now a.notes.now a.lines.now a.start);
    }

pub returns-then-n-eq0-clause-cut_all : goal.returns-then-n-eq0-clause-cut_all
returns-then-n-eq0-clause-cut_all c =
    let a = c.args in let l = c.loop-t in
    all_done (run a.table.now a.notes.now a.lines.now a.start) l.table l.notes l.lines l.w l.t l.invariant.after c.tidy-n.new.table
    c.tidy-n.result c.tidy-n.ensures.tidied c.if-n-eq0.true

pub returns-in_default-clause-cut_all : goal.returns-in_default-clause-cut_all
returns-in_default-clause-cut_all c =
    let a = c.args in let l = c.loop-t in let v = c.turned-v in
    λ s0 H Z. absurd (goes-on (run a.table.now a.notes.now a.lines.now a.start) l.table l.notes l.lines l.w l.t l.invariant.after
    c.tidy-n.new.table c.tidy-n.result c.tidy-n.ensures.tidied v.result v.ensures.turned v.ensures.kept.2 c.if-n-eq0.false
    (omega (arith, v.ensures.kept.2, c.tidy-n.ensures.upper_bound, l.invariant.pairs, c.loop-t-test.true))
    (omega (arith, v.ensures.kept.3, l.invariant.next, c.loop-t-test.true)) c.in_default.ensures.stepped s0 H Z)

pub loop-t-preserved : goal.loop-t-preserved
loop-t-preserved c =
    let a = c.args in let l = c.loop-t in let v = c.turned-v in let s = c.in-Some.ensures in record {
      top = s.near.0.0;
      bottom = s.near.0.1;
      pairs = omega (arith, s.near.0.2, v.ensures.kept.2, c.tidy-n.ensures.upper_bound, l.invariant.pairs);
      next = omega (arith, s.near.0.3, v.ensures.kept.3, l.invariant.next);
      low = s.near.1;
      kept = s.kept ∙ l.invariant.kept;
      after = pass (run a.table.now a.notes.now a.lines.now a.start) l.table l.notes l.lines l.w l.t l.invariant.after c.tidy-n.new.table
          c.tidy-n.result c.tidy-n.ensures.tidied v.result v.ensures.turned v.ensures.kept.2 c.if-n-eq0.false
          (omega (arith, v.ensures.kept.2, c.tidy-n.ensures.upper_bound, l.invariant.pairs, c.loop-t-test.true))
          (omega (arith, v.ensures.kept.3, l.invariant.next, c.loop-t-test.true)) s.stepped;
    }

pub returns-clause-cut_all : goal.returns-clause-cut_all
returns-clause-cut_all c =
    let a = c.args in let l = c.loop-t in
    λ s0 H Z. absurd (ended (run a.table.now a.notes.now a.lines.now a.start) (run l.table l.notes l.lines l.w) l.t l.invariant.after
    (omega arith) s0 H Z)
