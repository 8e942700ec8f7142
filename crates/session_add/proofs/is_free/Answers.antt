-- `is_free` tells whether add accepts the net.
use Rattle.std.proofs.Common.{ap, ◌∙◌, is_ok}
use Rattle.board_block.specs.View.{block_of}
use Rattle.net_places.specs.Places.{nets_of}
use Rattle.session_add.specs.Check.{check_accepts}
use Rattle.session_add.proofs.is_free.Goals as goal

pub returns : goal.returns
returns c =
    c.is_ok.ensures.value ∙ ap is_ok c.check.ensures ∙ check_accepts (block_of c.args.b) (nets_of c.args.nets) c.args.net
