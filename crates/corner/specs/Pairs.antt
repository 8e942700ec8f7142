-- Definitions only: counts over a list of pairs, for any set of vertices given by a test. Nothing is proved here.
use Rattle.std.specs.Prelude.{◌≡◌, Bool, true, false, ◌&&◌, ◌||◌, not, List, [], ◌∷◌, ℕ, ◌+◌, ◌≤◌, ◌<◌, leb}
use Rattle.count.specs.Truth.{one}
use Rattle.board.specs.declared.Vertex.{Vertex}
use Rattle.net.specs.declared.Pair.{Pair}
use Rattle.net.specs.Terminals.{same}

abbrev pub pair : Vertex → Vertex → Pair
pair u v = record { first = u; second = v }

-- ── two ends of a pair against a set: one truth value for each ──
-- one is in the set and the other is not
abbrev pub apart : Bool → Bool → ℕ
apart true true = 0
apart true false = 1
apart false true = 1
apart false false = 0

-- both are in the set
abbrev pub both : Bool → Bool → ℕ
both true true = 1
both true false = 0
both false b = 0

-- of three in a row the middle one is alone on its side: a detour by it costs 2
abbrev pub astray : Bool → Bool → Bool → ℕ
astray true true s = 0
astray true false s = one s
astray false false s = 0
astray false true s = one (not s)

-- ── counts over the pairs ──
unfoldable pub tally : (Vertex → Vertex → ℕ) → List Pair → ℕ
tally f [] = 0
tally f (p ∷ ps) = f p.first p.second + tally f ps

-- every terminal obeys P
abbrev pub All : (Vertex → Type 0) → List Pair → Type 0
All P [] = Unit {0}
All P (p ∷ ps) = P p.first × P p.second × All P ps

-- pairs with one end in X: they leave it
unfoldable pub leaving : (Vertex → Bool) → List Pair → ℕ
leaving X ps = tally (λ u v. apart (X u) (X v)) ps

-- pairs with both ends in X
unfoldable pub inside : (Vertex → Bool) → List Pair → ℕ
inside X ps = tally (λ u v. both (X u) (X v)) ps

-- terminals that stand in X
unfoldable pub standing : (Vertex → Bool) → List Pair → ℕ
standing X ps = tally (λ u v. one (X u) + one (X v)) ps

-- pairs with one end in A, the other in B
abbrev pub joins : (A B : Vertex → Bool) → Vertex → Vertex → ℕ
joins A B u v = one ((A u && B v) || (A v && B u))

unfoldable pub between : (A B : Vertex → Bool) → List Pair → ℕ
between A B ps = tally (joins A B) ps

-- pairs that pass a test, in one direction or the other
unfoldable pub hits : (Vertex → Vertex → Bool) → List Pair → ℕ
hits f ps = tally (λ u v. one (f u v) + one (f v u)) ps

-- the two ends differ
abbrev pub Proper : List Pair → Type 0
Proper [] = Unit {0}
Proper (p ∷ ps) = (same p.first p.second ≡ false) × Proper ps

-- the pairs under a map of the vertices
abbrev pub maps : (Vertex → Vertex) → List Pair → List Pair
maps g [] = []
maps g (p ∷ ps) = pair (g p.first) (g p.second) ∷ maps g ps

-- ── pairs that cross the cut right of column x ──
-- p lies right of the cut, q left, p not below line m
abbrev pub across : ℕ → ℕ → Vertex → Vertex → Bool
across x m p q = (not (leb p.column x) && leb q.column x) && leb p.line m

-- every pair that crosses the cut has its right end on line m or below
abbrev pub NoHigher : ℕ → ℕ → List Pair → Type 0
NoHigher x m [] = Unit {0}
NoHigher x m (p ∷ ps) = (x < p.first.column → p.second.column ≤ x → m ≤ p.first.line)
    × (x < p.second.column → p.first.column ≤ x → m ≤ p.second.line) × NoHigher x m ps

-- ── one pair taken out of the list, in either direction; the rest keeps its order ──
pub data Take (u v : Vertex) : List Pair → List Pair → Type 0 where
  here : {ps : List Pair} → Take u v (pair u v ∷ ps) ps
  back : {ps : List Pair} → Take u v (pair v u ∷ ps) ps
  there : {p : Pair} {ps rest : List Pair} → Take u v ps rest → Take u v (p ∷ ps) (p ∷ rest)

-- a pair that has ends u, v (in this order or the other) and passes a test
abbrev pub Found : (Vertex → Vertex → Bool) → List Pair → Type 0
Found f ps = (u : Vertex) × (v : Vertex) × (rest : List Pair) × Take u v ps rest × (f u v ≡ true)

-- ── the same pairs, in any order, either way round: every count that does not tell the two ends apart is the same ──
abbrev pub SamePairs : List Pair → List Pair → Type 0
SamePairs ps qs = (f : Vertex → Vertex → ℕ) → ((u v : Vertex) → f u v ≡ f v u) → tally f ps ≡ tally f qs
