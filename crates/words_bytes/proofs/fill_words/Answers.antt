-- `fill_words` writes the first words of the bytes into the buffer.
use native.Mathlib.Omega.{arith}
use Rattle.words_bytes.specs.WordsLaws.{fill_next, filled_length}
use mathlib.Core.Path.{◌≡◌, refl}
use Prim.Native.Nat.{◌*◌}
use Rattle.words_bytes.proofs.fill_words.Goals as goal

pub loop-i-init : goal.loop-i-init
loop-i-init c = (omega arith, omega arith, c.requires.n_in_bounds, c.requires.n_in_bounds_2, refl)

pub word_at-requires : goal.word_at-requires
word_at-requires c = omega arith

pub bounds-out-i : goal.bounds-out-i
bounds-out-i c =
    let loop = c.loop-i in
    let args = c.args in
    omega (arith, filled_length args.bytes.now loop.out args.out.now loop.i (omega arith) (omega arith) loop.invariant.4)

pub loop-i-preserved : goal.loop-i-preserved
loop-i-preserved c =
    let loop = c.loop-i in
    let args = c.args in
    let at = loop in
    let e : at.at ≡ 4 * at.i = at.invariant.1 in (
      omega arith,
      omega arith,
      at.invariant.2,
      at.invariant.3,
      rw (c.word_at.ensures, e) (fill_next args.bytes.now at.out args.out.now at.i (omega arith) (omega arith) at.invariant.4),
    )

pub returns : goal.returns
returns c =
    let loop = c.loop-i in
    let args = c.args in
    let at = loop in
    let e : at.i ≡ args.n = omega arith in
    record {
      buffer = rw e at at.invariant.4;
      size = filled_length args.bytes.now loop.out args.out.now loop.i (omega arith) (omega arith)
          loop.invariant.4;
    }
