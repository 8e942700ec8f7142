-- `write_paths` goes through the 64 places: `Through` holds at each turn of the loop.
use Rattle.std.proofs.Common.{arith, ◌∙◌}
use Rattle.router_notes.specs.Limits.{pair_limit}
use Rattle.router_trace.specs.Traces.{path_of}
use Rattle.router_writer.specs.Nets.{held_is}
use Rattle.router_writer.specs.Through.{through-none, through-next, through-all}
use Rattle.router_writer.proofs.write_paths.Goals as goal

pub loop-i-init : goal.loop-i-init
loop-i-init c = let a = c.args in through-none (path_of a.notes.now pair_limit) a.nets a.out.now

pub loop-i-preserved : goal.loop-i-preserved
loop-i-preserved c =
    let a = c.args in let l = c.loop-i in let w = c.write_place-at in let start = c.min-start in
    rw (c.from-k.ensures, c.is_some.ensures, held_is)
    (through-next (path_of a.notes.now pair_limit) a.nets a.out.now l.out w.new.out l.at l.k l.i start.result w.result (omega arith)
    l.invariant (omega (arith, start.ensures)) (λ h. omega (arith, start.ensures)) w.ensures.upper_bound w.auto.out w.ensures.written)

pub returns : goal.returns
returns c =
    let a = c.args in
    let w = through-all (path_of a.notes.now pair_limit) a.nets c.loop-i.invariant (omega arith) c.pack_routing_end.ensures c.requires.short in
    record { value = w.counted; out_after = c.put.ensures ∙ w.text c.requires.room }
