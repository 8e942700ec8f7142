-- Definitions only: moves along unit edges, the notes that the router writes, the path that notes give to a pair, and routings read off notes.
-- A note says where the end of a pair went from a deleted vertex, or how a pair was divided; it is written once and never changed. Nothing is
-- proved here.
use Rattle.std.specs.Prelude.{◌≡◌, List, [], ◌∷◌, ◌++◌, ◌⊎◌, ℕ, ◌+◌, ◌≤◌, ◌<◌}
use Rattle.count.specs.Truth.{one}
use Rattle.count.specs.Sum.{sum}
use Rattle.board.specs.declared.Vertex.{Vertex}
use Rattle.corner.specs.Trails.{Link, lo, hi, same_link}

-- ── moves ──
-- a unit edge, passed forwards (right, down) or backwards (left, up)
pub data Move : Type 0 where
  fwd : Link → Move
  bwd : Link → Move

-- the unit edge, where the move starts and where it ends
abbrev pub edge : Move → Link
edge (fwd e) = e
edge (bwd e) = e

abbrev pub start : Move → Vertex
start (fwd e) = lo e
start (bwd e) = hi e

abbrev pub finish : Move → Vertex
finish (fwd e) = hi e
finish (bwd e) = lo e

-- the same unit edge, the other way
abbrev pub opp : Move → Move
opp (fwd e) = bwd e
opp (bwd e) = fwd e

-- the moves lead from u to v
abbrev pub Goes : Vertex → List Move → Vertex → Type 0
Goes u [] v = u ≡ v
Goes u (m ∷ ms) v = (u ≡ start m) × Goes (finish m) ms v

-- how often the moves pass e
unfoldable pub uses : Link → List Move → ℕ
uses e [] = 0
uses e (m ∷ ms) = one (same_link e (edge m)) + uses e ms

-- the moves backwards
unfoldable pub revm : List Move → List Move
revm [] = []
revm (m ∷ ms) = revm ms ++ (opp m ∷ [])

-- ── notes ──
-- a pair with its number: a and b are its two ends
pub record Item : Type 0 where
  pub id : ℕ
  pub a : Vertex
  pub b : Vertex

abbrev pub item : ℕ → Vertex → Vertex → Item
item k u v = record { id = k; a = u; b = v }

-- where an end that stood at a vertex went
pub data Hop : Type 0 where
  stay : Hop
  on : Move → Hop

-- how a pair was divided: the first half, the two moves, the second half
pub data Part : Type 0 where
  whole : Part
  parted : Item → Move → Move → Item → Part

-- by number: where its end went from a vertex, and how it was divided
pub record Notes : Type 0 where
  pub go : ℕ → Vertex → Hop
  pub part : ℕ → Part

-- the moves of the end of k that stands at v
pub data Follows (N : Notes) (k : ℕ) : Vertex → List Move → Type 0 where
  stop : {v : Vertex} → N.go k v ≡ stay → Follows N k v []
  step : {v : Vertex} {m : Move} {ms : List Move} → N.go k v ≡ on m → Follows N k (finish m) ms → Follows N k v (m ∷ ms)

-- the moves of a pair: those of its first end, those of its halves if it was divided, and those of its second end backwards
pub data Path (N : Notes) : Item → List Move → Type 0 where
  plain : {i : Item} {xs ys ms : List Move} → N.part i.id ≡ whole → Follows N i.id i.a xs → Follows N i.id i.b ys
      → ms ≡ xs ++ revm ys → Path N i ms
  joint : {i h j : Item} {m n : Move} {xs ys ps qs ms : List Move} → N.part i.id ≡ parted h m n j → Follows N i.id i.a xs
      → Follows N i.id i.b ys
      → Path N h ps → Path N j qs → ms ≡ xs ++ ((ps ++ (m ∷ n ∷ qs)) ++ revm ys) → Path N i ms

-- ── a routing read off notes: a path for each of n pairs, and a unit edge e is used at most B e times in all ──
pub record Routed (N : Notes) (B : Link → ℕ) (n : ℕ) (it : ℕ → Item) : Type 0 where
  pub ms : ℕ → List Move
  pub goes : (i : ℕ) → i < n → Goes (it i).a (ms i) (it i).b
  pub reads : (i : ℕ) → i < n → Path N (it i) (ms i)
  pub bound : (e : Link) → sum n (λ i. uses e (ms i)) ≤ B e

-- one end of an item moves
abbrev pub Moved : Item → Move → Item → Type 0
Moved x m y = ((x.a ≡ start m) × (y ≡ item x.id (finish m) x.b)) ⊎ ((x.b ≡ start m) × (y ≡ item x.id x.a (finish m)))
