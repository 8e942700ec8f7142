-- `print` prints a line whole: what the closure tells as its length is at most the buffer's, by the clause `fits`.
use Rattle.std.specs.Prelude.{replicate}
use Rattle.std.specs.Fn.{FnOnceReturnsAtMut}
use mathlib.Core.Path.{refl}
use native.Mathlib.Omega.{arith}
use Rattle.io.proofs.Counting.{length-take_of_le}
use Rattle.replay.proofs.print.Goals as goal

pub slice_bounds-out-end : goal.slice_bounds-out-end
slice_bounds-out-end g c =
    let told : FnOnceReturnsAtMut g.F.FnOnce c.args.line (replicate 128 0) c.line-count.result c.line-count.new.arg2 =
    record { shown = _; shows = refl; left = _; met = c.line-count.ensures; leaves = refl } in
    let h = c.requires.fits c.line-count.result c.line-count.new.arg2 told in omega (arith, h, c.line-count.array_long)

pub slice_bounds-write_all-end : goal.slice_bounds-write_all-end
slice_bounds-write_all-end g c =
    let told : FnOnceReturnsAtMut g.F.FnOnce c.args.line (replicate 128 0) c.line-count.result c.line-count.new.arg2 =
    record { shown = _; shows = refl; left = _; met = c.line-count.ensures; leaves = refl } in
    let h = c.requires.fits c.line-count.result c.line-count.new.arg2 told in
    length-take_of_le c.line-count.result c.line-count.new.arg2 (omega (arith, h, c.line-count.array_long))
