-- `lifts` tells whether the pile can be lifted to the bottom.
use Rattle.std.proofs.Common.{sym, ◌∙◌, arith, rules}
use Rattle.board_block.specs.View.{block_of}
use Rattle.session_sound.specs.Reverse.{length_reversed, lifts_turn, lifts_stuck, lifts_done}
use Rattle.session_sound.proofs.lifts.Goals as goal

pub returns-then-not-is_liftable : goal.returns-then-not-is_liftable
returns-then-not-is_liftable c =
    let at = c.loop-rest in sym (lifts_stuck (block_of c.args.b) at.on at.rest (search rules) (cc)) ∙ at.invariant.1

pub loop-rest-preserved : goal.loop-rest-preserved
loop-rest-preserved c =
    let at = c.loop-rest in (
      rw c.reversed-before.ensures (length_reversed c.top-top.result at.on ∙ at.invariant.0),
      lifts_turn (block_of c.args.b) at.on c.reversed-before.result at.rest c.lift-rest.result at.invariant.0 (search rules) (cc) (cc)
          c.lift-rest.ensures ∙ at.invariant.1,
    )

pub returns : goal.returns
returns c = let at = c.loop-rest in sym (lifts_done (block_of c.args.b) at.on at.rest (omega arith)) ∙ at.invariant.1
