-- One turn of the search's loop on arrays: what the slack and the answer for the other vertices say of one attempt.
-- Assumes nothing.
use Rattle.std.specs.Prelude.{◌≡◌, refl, List, [], ◌∷◌, ◌++◌, ℕ, ◌+◌, ◌-◌, ◌≤◌, get_or, set, None, Some}
use Rattle.std.specs.Prelude as prelude
use Rattle.std.proofs.Common.{ap, sym, ◌∙◌}
use Rattle.std.proofs.Math.Option.{none}
use Rattle.board.specs.Board.{Board, at}
use Rattle.board.specs.declared.Vertex.{Vertex}
use Rattle.net.specs.declared.Pair.{Pair}
use Rattle.pairing.specs.Search.{with_pair}
use Rattle.pairing_search.specs.View.{Left, Lowers, pairs_found, Pairs}
use Rattle.pairing_search.specs.Slack.{left_open, left_more, left-full}
use Rattle.pairing_search.specs.Arrays.{pair_at, attempts, array-shut, array-open}
use Rattle.pairing_search.specs.declared.HelperPairs.{HelperPairs}

-- attempt j is with the vertex at place k
module _ (b : Board) (qs : List Pair) (n : ℕ) (vs : List Vertex) (j k : ℕ) (p : 12 - n + 1 + j ≡ k) (h : j + 2 ≤ n) (l : n ≤ 12)
    (m : ℕ) (a : List ℕ) (L : Left b qs m a) where
  pub turn-full : Lowers (pair_at vs n k) m a None → attempts b vs n qs j ≡ none
  turn-full K = array-shut b qs n vs j h l (rw p (left-full b qs m a L (pair_at vs n k) None K refl))

  pub turn-found : (rest : List ℕ) → Lowers (pair_at vs n k) m a (Some rest) → (os : List Vertex) → os ≡ set vs k (get_or vs (12 - n + 1) (at 0 0))
      → (r : prelude.Option HelperPairs) → Pairs (n - 2) os m rest r → attempts b vs n qs j ≡ with_pair (pair_at vs n k) (pairs_found r)
  turn-found rest K os f r R =
      let L' = left_more b qs m a L (pair_at vs n k) (Some rest) K rest refl in
      let o = array-open b qs n vs j h l (rw p (left_open b (pair_at vs n k ∷ qs) m rest L')) in
      rw p at o ∙ ap (with_pair (pair_at vs n k)) (sym (rw f at (R.exact b (pair_at vs n k ∷ qs) L')))
