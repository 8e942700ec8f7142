-- Each number goes behind those before it.
use Rattle.std.proofs.Common.{refl, arith}
use Rattle.text.specs.Line.{spaced}
use Rattle.text.specs.Laws.{put_first, put_next}
use Rattle.text.proofs.put_numbers.Goals as goal

pub loop-number-init : goal.loop-number-init
loop-number-init c = record {
  end_in_bounds = omega arith;
  out_len_unchanged = refl;
  put = put_first spaced c.args.numbers.now c.args.at c.args.out.now;
}

pub loop-number-preserved : goal.loop-number-preserved
loop-number-preserved c = record {
  end_in_bounds = omega (arith, c.put_number-end.ensures.upper_bound);
  out_len_unchanged = omega arith;
  put = put_next spaced c.args.numbers.now c.loop-number.number-index (omega arith) c.loop-number.invariant.put c.put_number-end.ensures.put;
}
