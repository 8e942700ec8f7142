use Rattle.std.proofs.Common.{◌≡◌, ◌+◌, ◌-◌, List, drop}
use Rattle.board.specs.Board.{Board}
use Rattle.net.specs.declared.Pair.{Pair}
use Rattle.pairing.specs.Search.{first_of, pair_up}
use Rattle.pairing_search.specs.View.{Left}
use Rattle.pairing_search.specs.Arrays.{attempts}
use Rattle.pairing_search.proofs.+pair_up.Given as goal

abbrev pub decreases-pair_up : goal.decreases-pair_up
decreases-pair_up l = l.n

abbrev pub invariant-loop-k : goal.invariant-loop-k
invariant-loop-k l =
    (b : Board) (qs : List Pair) → Left b qs l.m l.left
    → first_of (attempts b l.vs l.n qs) (l.k - (l.from + 1)) (12 - l.k) ≡ pair_up b l.n (drop (12 - l.n) l.vs) qs
