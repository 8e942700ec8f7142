use mathlib.Core.Path.{◌≡◌}
use mathlib.Core.Bool.{◌&&◌}
use lib.ListN.{length, drop}
use Rattle.board.specs.View.{board_of}
use Rattle.board_block.specs.Taken.{all_there?}
use Rattle.board_block.specs.View.{taken_from, taken_of}
use Rattle.board_block.proofs.is_fine.Given as goal

abbrev pub invariant-loop-place : goal.invariant-loop-place
invariant-loop-place l = let b = l.fn.b in
    (length b.taken ≡ 1024)
    × (l.ok && all_there? b.book (board_of b.board) (taken_from l.place (drop l.place b.taken)) ≡ all_there? b.book (board_of b.board) (taken_of b.taken))
