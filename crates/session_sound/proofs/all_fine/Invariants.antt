use Rattle.std.proofs.Common.{◌≡◌, true, take}
use Rattle.std.specs.List.{list_all}
use Rattle.board.specs.Board.{Within}
use Rattle.board_block.specs.View.{block_of}
use Rattle.session_rules.specs.Sound.{kept_fine?}
use Rattle.session_names.specs.Names.{kept_in}
use Rattle.session_sound.specs.Room.{layout_roomy}
use Rattle.session_sound.proofs.all_fine.Given as goal

abbrev pub invariant-loop-layout : goal.invariant-loop-layout
invariant-loop-layout l =
    (list_all (layout_roomy (block_of l.b)) (take l.layout-index l.layout-items) ≡ true)
    × (Within (block_of l.b).board → list_all (λ k. kept_fine? (block_of l.b) (kept_in k)) (take l.layout-index l.layout-items) ≡ true)
