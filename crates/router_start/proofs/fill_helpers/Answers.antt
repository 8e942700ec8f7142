-- After i turns the first i helper pairs stand in the rows from row k on.
use Rattle.std.proofs.Common.{arith}
use Rattle.router_start.specs.TableLaws.{kept_on, puts-more}
use Rattle.router_start.proofs.fill_helpers.Goals as goal

pub loop-i-preserved : goal.loop-i-preserved
loop-i-preserved c =
    let l = c.loop-i in (
      puts-more c.args.pairs.now c.args.k l.i (omega arith) l.invariant.0 c.fill_row.ensures.0,
      kept_on c.args.notes.now l.notes c.fill_row.new.notes l.invariant.1 c.fill_row.ensures.1,
    )
