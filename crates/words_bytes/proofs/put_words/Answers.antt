-- After i words their bytes stand at the start of the buffer.
use native.Mathlib.Omega.{arith}
use mathlib.Core.Path.{◌≡◌, ap, ◌∙◌}
use lib.ListN.{length}
use Rattle.words_bytes.specs.PutLaws.{put_none, put_next, put_length}
use Rattle.words_bytes.proofs.put_words.Goals as goal

pub loop-i-init : goal.loop-i-init
loop-i-init c = (omega arith, omega arith, put_none c.args.words.now c.args.out.now)

pub put_word-requires : goal.put_word-requires
put_word-requires c =
    let loop = c.loop-i in
    let args = c.args in
    omega (arith, ap length loop.invariant.2, put_length args.words.now args.out.now loop.i (omega arith) (omega arith))

pub loop-i-preserved : goal.loop-i-preserved
loop-i-preserved c =
    let put_word = c.put_word in
    let loop = c.loop-i in
    let args = c.args in (
      omega arith,
      omega arith,
      let e = put_next args.words.now _ args.out.now loop.i loop.at (omega arith) loop.invariant.1 (omega arith)
          loop.invariant.2 in put_word.ensures ∙ e,
    )

pub returns : goal.returns
returns c = let e : c.loop-i.i ≡ c.args.n = omega arith in rw e at c.loop-i.invariant.2
