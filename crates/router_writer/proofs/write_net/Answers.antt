-- `write_net` assembles the path in a buffer of its own and writes what the assembly put there.
use native.Mathlib.Omega.{arith}
use Prim.Native.Nat.{ℕ, ◌≤◌}
use mathlib.Core.Path.{◌≡◌, sym}
use lib.ListN.{length-take, length-replicate}
use lib.Seq.{length-take-le}
use Rattle.router_notes.specs.Limits.{path_limit}
use Rattle.router_writer.specs.Nets.{net-few, net-written}
use Rattle.router_writer.proofs.write_net.Goals as goal

pub slice_bounds-dirs-end : goal.slice_bounds-dirs-end
slice_bounds-dirs-end c = omega (arith, c.assemble-end.ensures.kept, length-replicate {A = ℕ} path_limit 0, c.min-n.ensures)

pub slice_bounds-write_path-end : goal.slice_bounds-write_path-end
slice_bounds-write_path-end c =
    let least = c.min-n in
    let assemble = c.assemble-end in
    sym (length-take-le _ _ (omega (arith, assemble.ensures.kept, length-replicate {A = ℕ} path_limit 0, least.ensures)))

pub write_path-requires : goal.write_path-requires
write_path-requires c =
    let least = c.min-n in
    let assemble = c.assemble-end in
    omega (arith, least.ensures, length-take least.result assemble.new.out)

pub returns : goal.returns
returns c =
    let write-path = c.write_path in
    let least = c.min-n in
    let assemble = c.assemble-end in
    let args = c.args in
    let a = args in
    let low : least.result ≤ path_limit = omega (arith, least.ensures) in
    let met : assemble.result ≤ path_limit → least.result ≡ assemble.result = λ h. omega (arith, least.ensures) in record {
      upper_bound = net-few a.net assemble.ensures (length-replicate {A = ℕ} path_limit 0) low met write-path.ensures;
      written = net-written a.net assemble.ensures (length-replicate {A = ℕ} path_limit 0) low met write-path.ensures;
    }
