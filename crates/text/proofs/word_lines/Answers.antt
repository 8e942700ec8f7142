-- Each word's line goes behind those before it.
use Rattle.std.proofs.Common.{refl, ap, arith, length, take}
use Rattle.text.specs.Hex.{hex_line}
use Rattle.text.specs.Laws.{put_first, put_next}
use Rattle.text.proofs.word_lines.Goals as goal

pub loop-word-init : goal.loop-word-init
loop-word-init c = record {
  end_is = refl;
  out_len_unchanged = refl;
  put = put_first hex_line c.args.words.now 0 c.args.out.now;
}

pub loop-word-preserved : goal.loop-word-preserved
loop-word-preserved c = record {
  end_is = omega (arith, c.put-end.ensures.ends, ap length c.hex_line.ensures);
  out_len_unchanged = omega arith;
  put = put_next hex_line (take c.min.result c.args.words.now) c.loop-word.word-index (omega arith) c.loop-word.invariant.put
      (rw c.hex_line.ensures at c.put-end.ensures);
}
