-- The end: a routing in the theorem's sense, and no path is longer than the frame has unit edges.
-- Assumes a routing read off notes, under a bound that the shape's unit edges set.
use Rattle.std.specs.Prelude.{◌≡◌, refl, List, [], ◌∷◌, ℕ, zero, suc, ◌+◌, ◌≤◌, ◌<◌, length}
use Rattle.std.proofs.Common.{ap, inl, inr, arith}
use Rattle.count.specs.Truth.{one}
use Rattle.count.specs.Sum.{sum}
use Rattle.count.specs.Sums.{sum_get}
use Rattle.board.specs.declared.Vertex.{Vertex}
use Rattle.corner.specs.Shape.{Shape}
use Rattle.corner.specs.Trails.{Routed as Routing, Link, lo, hi, same_link, joined, Walk, used, Trails, total}
use Rattle.router_notes.specs.Limits.{path_limit}
use Rattle.router_notes.specs.Notes.{Move, edge, Goes, uses, Item, Notes, Routed, fwd, bwd}
use Rattle.router_notes.specs.Table.{pairs_of}
use Rattle.router_notes.specs.Frame.{InFrame, all_le, all_ones, length_all}

abbrev pub edges_of : List Move → List Link
edges_of [] = []
edges_of (m ∷ ms) = edge m ∷ edges_of ms

pub walk_of : (u v : Vertex) (ms : List Move) → Goes u ms v → Walk u (edges_of ms) v
walk_of u v [] h = h
walk_of u v (fwd e ∷ ms) h = inl (h.0, walk_of (hi e) v ms h.1)
walk_of u v (bwd e ∷ ms) h = inr (h.0, walk_of (lo e) v ms h.1)

pub count_of : (e : Link) (ms : List Move) → used e (edges_of ms) ≡ uses e ms
unfolding used uses
count_of e [] = refl
count_of e (m ∷ ms) = ap (λ t. one (same_link e (edge m)) + t) (count_of e ms)

trails_of : (n : ℕ) (it : ℕ → Item) (ms : ℕ → List Move) → ((i : ℕ) → i < n → Goes (it i).a (ms i) (it i).b)
    → (ts : Trails (pairs_of n it)) × ((e : Link) → total e (pairs_of n it) ts ≡ sum n (λ i. uses e (ms i)))
unfolding total sum
trails_of zero it ms g = (tt, λ e. refl)
trails_of (suc n) it ms g = let r = trails_of n it ms (λ i l. g i (omega arith)) in
    (((edges_of (ms n), walk_of (it n).a (it n).b (ms n) (g n (omega arith))), r.0), λ e. omega (arith, r.1 e, count_of e (ms n)))

pub routing_of : (N : Notes) (B : Link → ℕ) (n : ℕ) (it : ℕ → Item) (S : Shape) → Routed N B n it → ((e : Link) → B e ≤ one (joined S e))
    → Routing (joined S) (pairs_of n it)
routing_of N B n it S R h = let t = trails_of n it R.ms R.goes in record { trails = t.0; once = λ e. omega (arith, t.1 e, R.bound e, h e) }

-- ── length ──
pub short : (N : Notes) (B : Link → ℕ) (n : ℕ) (it : ℕ → Item) (R : Routed N B n it) → ((e : Link) → B e ≤ 1) → ((e : Link) → 1 ≤ B e → InFrame e)
    → (i : ℕ) → i < n → length (R.ms i) ≤ path_limit
short N B n it R b f i l =
    let u : (e : Link) → uses e (R.ms i) ≤ B e = λ e. omega (arith, R.bound e, sum_get n i (λ j. uses e (R.ms j)) l) in
    omega (
      arith,
      length_all (R.ms i) (λ e k. f e (omega (arith, u e))),
      all_le (λ e. uses e (R.ms i)) (λ e. 1) (λ e. omega (arith, u e, b e)),
      all_ones,
    )
