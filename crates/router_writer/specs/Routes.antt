-- The paths that are written are a routing: they join the pairs in rising number, and no edge is used twice.
-- Assumes what the router's run leaves: a routing read off its notes, on the board's edges, for pairs that stand as they were made.
use Rattle.std.specs.Prelude.{◌≡◌, refl, true, get_or, length}
use Rattle.std.proofs.Common.{ap, ◌∙◌, subst, inl, inr}
use Rattle.std.proofs.Math.Path.{ap₂, sym}
use mathlib.Core.List.{List, [], ◌∷◌}
use Prim.Native.Nat.{ℕ, zero, suc, ◌+◌, ◌≤◌, ◌<◌}
use native.Mathlib.Omega.{arith}
use Rattle.count.specs.Truth.{one}
use Rattle.count.specs.TruthLaws.{bool}
use Rattle.count.specs.Sum.{sum, sum_zero, sum_suc}
use Rattle.board.specs.Board.{Board, Within}
use Rattle.board.specs.declared.Vertex.{Vertex}
use Rattle.board.specs.declared.Direction.{Direction}
use Rattle.board.specs.declared.Direction.TheVariants.{Up, Right, Down, Left}
use Rattle.net.specs.declared.Pair.{Pair}
use Rattle.routing_rules.specs.Routing.{Routing}
use Rattle.corner.specs.Pairs.{pair}
use Rattle.corner.specs.Trails.{Link, hor, ver, hi, lo, Walk, Trails, total}
use Rattle.corner.specs.Links.{on_board, dirs_of, paths_of}
use Rattle.corner.proofs.LinkLaws.{on_frame}
use Rattle.corner.proofs.Paths.{routed_routing}
use Rattle.router_notes.specs.Limits.{pair_limit, path_limit}
use Rattle.router_notes.specs.Notes.{Move, fwd, bwd, Goes, uses, Item, Routed}
use Rattle.router_notes.specs.Arrays.{born, notesOf}
use Rattle.router_notes.specs.Frame.{InFrame}
use Rattle.router_notes.specs.Final.{edges_of, count_of, short}
use Rattle.router_trace.specs.Traces.{path_d}
use Rattle.router_trace.specs.Directions.{dirs, Ordered}
use Rattle.router_trace.specs.Link.{path_is}
use Rattle.router_writer.specs.Written.{directions}
use Rattle.router_writer.specs.Paths.{paths_from, Short}

-- DEFINITION: the ends of n pairs from k on, in rising number
unfoldable pub pairs_from : (ℕ → Item) → ℕ → ℕ → List Pair
pairs_from it k zero = []
pairs_from it k (suc n) = pair (it k).a (it k).b ∷ pairs_from it (suc k) n

-- they are the pairs that they stand for one by one
pub pairs-from : (it : ℕ → Item) (d : Pair) (k : ℕ) (ps : List Pair) → ((i : ℕ) → i < length ps → pair (it (k + i)).a (it (k + i)).b ≡ get_or ps i d)
    → ps ≡ pairs_from it k (length ps)
unfolding pairs_from
pairs-from it d k [] h = refl
pairs-from it d k (p ∷ ps) h =
    let z : k + 0 ≡ k = omega arith in
    let first : pair (it k).a (it k).b ≡ p = rw z at (h 0 (omega arith)) in
    let rest : (i : ℕ) → i < length ps → pair (it (suc k + i)).a (it (suc k + i)).b ≡ get_or ps i d = λ i l.
    let q : k + suc i ≡ suc k + i = omega arith in
    rw q at (h (suc i) (omega arith)) in
    ap₂ {A = Pair} (λ x xs. x ∷ xs) (sym first) (pairs-from it d (suc k) ps rest)

-- a walk by moves along their unit edges, and its directions
walk_dirs : (u v : Vertex) (ms : List Move) → Goes u ms v → (w : Walk u (edges_of ms) v) × (dirs_of u v (edges_of ms) w ≡ directions (dirs ms))
unfolding dirs_of
walk_dirs u v [] g = (g, refl)
walk_dirs u v (fwd (hor l c) ∷ ms) g =
    let r = walk_dirs (hi (hor l c)) v ms g.1 in
    (inl (g.0, r.0), ap (λ (ds : List Direction). Right ∷ ds) r.1)
walk_dirs u v (fwd (ver l c) ∷ ms) g =
    let r = walk_dirs (hi (ver l c)) v ms g.1 in
    (inl (g.0, r.0), ap (λ (ds : List Direction). Down ∷ ds) r.1)
walk_dirs u v (bwd (hor l c) ∷ ms) g =
    let r = walk_dirs (lo (hor l c)) v ms g.1 in
    (inr (g.0, r.0), ap (λ (ds : List Direction). Left ∷ ds) r.1)
walk_dirs u v (bwd (ver l c) ∷ ms) g =
    let r = walk_dirs (lo (ver l c)) v ms g.1 in
    (inr (g.0, r.0), ap (λ (ds : List Direction). Up ∷ ds) r.1)

-- a trail for each pair: how often they use a unit edge, and their directions
module _ (it : ℕ → Item) (ms : ℕ → List Move) (P : ℕ → List ℕ) where
  trails-from : (k n : ℕ) → ((i : ℕ) → i < k + n → Goes (it i).a (ms i) (it i).b) → ((i : ℕ) → i < k + n → P i ≡ dirs (ms i))
      → (ts : Trails (pairs_from it k n))
      × ((e : Link) → sum k (λ i. uses e (ms i)) + total e (pairs_from it k n) ts ≡ sum (k + n) (λ i. uses e (ms i)))
      × (paths_of (pairs_from it k n) ts ≡ paths_from P k n)
  unfolding pairs_from total paths_of paths_from
  trails-from k zero g p = (tt, λ e. let q : k + 0 ≡ k = omega arith in rw q (omega arith), refl)
  trails-from k (suc n) g p =
      let q : suc k + n ≡ k + suc n = omega arith in
      let r = trails-from (suc k) n (λ i l. g i (omega arith)) (λ i l. p i (omega arith)) in
      let w = walk_dirs (it k).a (it k).b (ms k) (g k (omega arith)) in (
        ((edges_of (ms k), w.0), r.0),
        λ e. rw (← q) (omega (arith, r.1 e, sum_suc k (λ i. uses e (ms i)), count_of e (ms k))),
        ap₂ {A = List Direction} (λ d ds. d ∷ ds) (w.1 ∙ sym (ap directions (p k (omega arith)))) r.2,
      )

pub length_dirs : (ms : List Move) → length (dirs ms) ≡ length ms
length_dirs [] = refl
length_dirs (m ∷ ms) = ap suc (length_dirs ms)

-- a unit edge of the board lies in the frame
link_frame : (b : Board) → Within b → (e : Link) → on_board b e ≡ true → InFrame e
link_frame b W (hor l c) h = on_frame b W (hor l c) h
link_frame b W (ver l c) h = on_frame b W (ver l c) h

module _ (side vert half s1 s2 d1 d2 : List ℕ) (O : Ordered half d1 d2) (b : Board) (W : Within b) (B : Link → ℕ)
    (edges : (e : Link) → B e ≤ one (on_board b e)) (n : ℕ) (few : n ≤ pair_limit) (it : ℕ → Item)
    (R : Routed (notesOf side vert half s1 s2 d1 d2) B n it) (made : (i : ℕ) → i < n → it i ≡ born side vert half s1 s2 d1 d2 i) where
  abbrev P : ℕ → List ℕ
  P = path_d side vert half s1 s2 d1 d2 pair_limit

  one_at_most : (e : Link) → B e ≤ 1
  one_at_most e = elim (bool (on_board b e)) [
    | inl h ↦ omega (arith, edges e, ap one h)
    | inr h ↦ omega (arith, edges e, ap one h)
  ]

  pub in_frame : (e : Link) → 1 ≤ B e → InFrame e
  in_frame e l = elim (bool (on_board b e)) [
    | inl h ↦ link_frame b W e h
    | inr h ↦ absurd (omega (arith, edges e, ap one h))
  ]

  moves-short : (i : ℕ) → i < n → length (R.ms i) ≤ path_limit
  moves-short = short (notesOf side vert half s1 s2 d1 d2) B n it R one_at_most in_frame

  pub path-moves : (i : ℕ) → i < n → P i ≡ dirs (R.ms i)
  path-moves i l = path_is side vert half s1 s2 d1 d2 O pair_limit i (it i) (R.ms i) (made i l) (R.reads i l) (omega arith) (omega arith)
      (moves-short i l)

  pub paths-short : Short P n
  paths-short i l = omega (arith, ap length (path-moves i l), length_dirs (R.ms i), moves-short i l)

  pub paths-routing : Routing b (pairs_from it 0 n) (paths_from P 0 n)
  paths-routing =
      let t = trails-from it R.ms P 0 n (λ i l. R.goes i (omega arith)) (λ i l. path-moves i (omega arith)) in
      let z : 0 + n ≡ n = omega arith in
      let sums : (e : Link) → sum (0 + n) (λ i. uses e (R.ms i)) ≡ sum n (λ i. uses e (R.ms i)) = λ e. rw z refl in
      subst (λ dss. Routing b (pairs_from it 0 n) dss) t.2
      (routed_routing b (pairs_from it 0 n) (record {
        trails = t.0;
        once =
            λ e. omega (arith, t.1 e, sums e, sum_zero (λ i. uses e (R.ms i)), R.bound e, edges e);
      }))
