use Prim.Native.Nat.{◌-◌, ◌≤◌}
use Rattle.board.specs.View.{board_of}
use Rattle.session_move.specs.Search.{NoneBefore}
use Rattle.session_move.proofs.first_over.Given as goal

abbrev pub invariant-loop-i : goal.invariant-loop-i
invariant-loop-i l = (l.i ≤ 1024) × NoneBefore (board_of l.b.board) l.counts l.b.taken l.i

abbrev pub decreases-loop-i : goal.decreases-loop-i
decreases-loop-i l = 1024 - l.i
