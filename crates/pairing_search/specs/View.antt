-- Definitions only: the code's values, by the definitions of Search. Nothing is proved here: Slack has the laws.
use Rattle.std.specs.Prelude as prelude
use Rattle.std.specs.Prelude.{◌≡◌, cond, List, [], ◌∷◌, ◌++◌, ℕ, ◌+◌, ◌-◌, ◌≤◌, ◌<◌, ltb, length, get_or, set, take, drop, replicate}
use Rattle.std.specs.Prelude.{None, Some, IfSome}
use Rattle.std.proofs.Math.Option.{Option, none, some}
use Rattle.count.specs.Truth.{one}
use Rattle.board.specs.Board.{Board, height, at}
use Rattle.board.specs.declared.Vertex.{Vertex}
use Rattle.net.specs.declared.Pair.{Pair}
use Rattle.cut.specs.declared.Cut.{Cut}
use Rattle.cut.specs.declared.Cut.TheVariants.{Row, Column}
use Rattle.cut.specs.Cut.{edges, crosses, crossing}
use Rattle.corner.specs.Pairs.{pair}
use Rattle.pairing.specs.Search.{pair_up, helpers}
use Rattle.pairing_search.specs.declared.HelperPairs.{HelperPairs}
use Rattle.pairing_search.specs.declared.Odds.{Odds}

-- the cuts by number: the columns, then the rows
abbrev pub cut_at : ℕ → Cut
cut_at i = cond (ltb i 31) (Column i) (Row (i - 31))

-- the first m places have, for each cut of the board, the edges that are left
pub record Left (b : Board) (qs : List Pair) (m : ℕ) (a : List ℕ) : Type 0 where
  pub all : m ≡ 31 + height b
  pub here : (i : ℕ) → i < m → get_or a i 0 + crossing (cut_at i) qs ≡ edges b (cut_at i)

-- one pair more across the cuts: what is left, or a cut with no edge left that the pair crosses
pub record Lowers (p : Pair) (m : ℕ) (a : List ℕ) (r : prelude.Option (List ℕ)) : Type 0 where
  pub fit : (rest : List ℕ) → r ≡ Some rest → (i : ℕ) → i < m → get_or rest i 0 + one (crosses (cut_at i) p) ≡ get_or a i 0
  pub full : r ≡ None → (i : ℕ) × (i < m) × (get_or a i 0 < one (crosses (cut_at i) p))

-- the pairs found
abbrev pub pairs_found : prelude.Option HelperPairs → Option (List Pair)
pairs_found None = none
pairs_found (Some h) = some (take h.count h.pairs)

-- six places with no pair
abbrev pub no_pairs : List Pair
no_pairs = replicate 6 (pair (at 0 0) (at 0 0))

-- what the code answers: the pairs in the first places, and no pair after them; or none
abbrev pub found_of : Option (List Pair) → prelude.Option HelperPairs
found_of none = None
found_of (some hs) = Some (record { count = length hs; pairs = hs ++ drop (length hs) no_pairs })

-- one pair more, in the next place
abbrev pub put_pair : Pair → HelperPairs → HelperPairs
put_pair p h = record { count = h.count + 1; pairs = set h.pairs h.count p }

-- the answer for the last n of 12 vertices
pub record Pairs (n : ℕ) (vs : List Vertex) (m : ℕ) (a : List ℕ) (r : prelude.Option HelperPairs) : Type 0 where
  pub few : IfSome r (λ h. h.count + h.count ≤ n)
  pub long : IfSome r (λ h. length h.pairs ≡ 6)
  pub whole : r ≡ found_of (pairs_found r)
  pub exact : (b : Board) (qs : List Pair) → Left b qs m a → pairs_found r ≡ pair_up b n (drop (12 - n) vs) qs

-- ── odd vertices ──
-- none
abbrev pub no_odds : Odds
no_odds = record { count = 0; list = replicate 12 (at 0 0) }

-- one vertex more in front; none where they are more than 12
abbrev pub put_odd : Vertex → prelude.Option Odds → prelude.Option Odds
put_odd v None = None
put_odd v (Some o) = cond (ltb o.count 12) (Some (record { count = o.count + 1; list = set o.list (11 - o.count) v })) None

-- all of these, the last one first
abbrev pub odds_of : List Vertex → prelude.Option Odds
odds_of [] = Some no_odds
odds_of (v ∷ vs) = put_odd v (odds_of vs)

-- at most 12, in the last places
pub record Few (vs : List Vertex) (r : Odds) : Type 0 where
  pub most : r.count ≤ 12
  pub count : r.count ≡ length vs
  pub list : drop (12 - r.count) r.list ≡ vs

-- these, or more than 12
pub record Collects (vs : List Vertex) (r : prelude.Option Odds) : Type 0 where
  pub many : r ≡ None → 12 < length vs
  pub few : (o : Odds) → r ≡ Some o → Few vs o

-- the answer for a board
pub record Helps (b : Board) (ps : List Pair) (r : prelude.Option HelperPairs) : Type 0 where
  pub few : IfSome r (λ h. h.count ≤ 6)
  pub long : IfSome r (λ h. length h.pairs ≡ 6)
  pub exact : pairs_found r ≡ helpers b ps
  pub whole : r ≡ found_of (helpers b ps)
