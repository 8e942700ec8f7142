-- `write_place` writes the net that the place holds, or nothing.
use native.Mathlib.Omega.{arith}
use Rattle.router_writer.specs.Nets.{held_nothing, held-net}
use Rattle.router_writer.proofs.write_place.Goals as goal

pub returns-in-None : goal.returns-in-None
returns-in-None c = record {
  upper_bound = omega arith;
  written = held_nothing c.args.place c.args.number _
      c.args.out.now (cc);
}

pub returns-in-Some : goal.returns-in-Some
returns-in-Some c =
    let write-net = c.write_net in
    let args = c.args in
    record {
      upper_bound = write-net.ensures.upper_bound;
      written = held-net args.place args.number _ _ args.out.now write-net.result _ (cc) write-net.ensures.written;
    }
