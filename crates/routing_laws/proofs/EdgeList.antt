-- The edges that `edge_count` counts are the board's edges, each once.
-- Assumes, for "each once", that the board is within the limits.
-- How often an edge is listed is a sum over lines and columns 0 to 31, in which only its left or upper end counts (`going-at`).
use Rattle.std.specs.Prelude.{◌≡◌, Bool, ◌&&◌, ℕ, ◌+◌, ◌<◌, length}
use Rattle.std.proofs.Math.Path.{refl}
use Rattle.std.proofs.Common.{ap, sym, ◌∙◌, arith, length-append}
use mathlib.Core.List.{List, [], ◌∷◌, ◌++◌, map}
use Rattle.std.proofs.Math.Logic.{inl, inr}
use Rattle.std.proofs.lemmas.List.{length-map}
use Rattle.count.specs.Truth.{one}
use Rattle.count.specs.TruthLaws.{bool, not_true, and_true, and_yes, le_or_lt}
use Rattle.count.specs.Lists.{select}
use Rattle.count.specs.Tallies.{length_select}
use Rattle.count.specs.Sum.{sum}
use Rattle.count.specs.Sums.{sum_at, sum_none}
use Rattle.board.specs.Board.{Board, Within, Edge, IsEdge, at}
use Rattle.board.specs.Path.{along}
use Rattle.board.specs.Degree.{edge?}
use Rattle.board.specs.Order.{reading_order}
use Rattle.board.specs.Tests.{edge_exact}
use Rattle.board.specs.EdgesAt.{edge_eq}
use Rattle.board.specs.declared.Vertex.{Vertex}
use Rattle.board.specs.declared.Direction.{Direction}
use Rattle.board.specs.declared.Direction.TheVariants.{Right, Down}
use Rattle.board_pins.specs.Pins.{frame_sum}
use Rattle.board_edges.specs.EdgeCount.{edges_going, edge_count}
use Rattle.board_edges.proofs.Spans.{edge_spans}
use Rattle.board_edges.proofs.Framed.{count_framed}
use Rattle.routing_rules.specs.Routing.{same_edge, uses}
use Rattle.routing_rules.specs.Check.{same_edge_exact}
use Rattle.routing_laws.proofs.Used.{uses_append, All, all_edges}

-- DEFINITION: the edges that are counted, each by its left or upper end
unfoldable pub edge_list : Board → List Edge
edge_list b = map (along Right) (edges_going b Right) ++ map (along Down) (edges_going b Down)

-- the list is as long as the count says
pub list_length : (b : Board) → length (edge_list b) ≡ edge_count b
unfolding edge_list edge_count
list_length b = simp (length-append, length-map)

-- ── none but the board's edges ──
-- the edges that lead in a direction from the places of a list
abbrev going : Board → Direction → List Vertex → List Edge
going b d vs = map (along d) (select (edge? b d) vs)

-- they are the board's
going_edges : (b : Board) (d : Direction) (vs : List Vertex) → All b (going b d vs)
unfolding select
going_edges b d [] = tt
going_edges b d (v ∷ vs) = let r = going_edges b d vs in elim (bool (edge? b d v)) [ inl t ↦ rw t ((edge_exact b d v).0 t, r) | inr t ↦ rw t r ]

-- how often an edge is listed: among those to the right, and among those downwards
listed : (b : Board) (e : Edge) → uses e (edge_list b) ≡ uses e (going b Right reading_order) + uses e (going b Down reading_order)
unfolding edge_list edges_going
listed b e = uses_append e (going b Right reading_order) (going b Down reading_order)

-- what is listed is an edge of the board
pub listed_edges : (b : Board) (e : Edge) → 0 < uses e (edge_list b) → IsEdge b e
listed_edges b e h = elim (le_or_lt (uses e (going b Right reading_order)) 0) [
  | inl z ↦ all_edges b (going b Down reading_order) (going_edges b Down reading_order) e (omega (arith, listed b e))
  | inr z ↦ all_edges b (going b Right reading_order) (going_edges b Right reading_order) e z
]

-- ── each of them once ──
-- a sum whose terms are 0 but at one place
sum_one : (n k : ℕ) (f : ℕ → ℕ) → k < n → ((i : ℕ) → (i ≡ k → ⊥) → f i ≡ 0) → sum n f ≡ f k
sum_one n k f h z = omega (arith, sum_at n k (f k) f (λ i. 0) h z (omega arith), sum_none n (λ i. 0) (λ i j. refl))

-- the same over lines and columns 0 to 31
frame_one : (f : Vertex → ℕ) (u : Vertex) → u.line < 32 → u.column < 32 → ((v : Vertex) → (v ≡ u → ⊥) → f v ≡ 0) → frame_sum f ≡ f u
unfolding frame_sum
frame_one f u h k z =
    sum_one 32 u.line (λ l. sum 32 (λ c. f (at l c))) h (λ l n. sum_none 32 (λ c. f (at l c)) (λ c i. z (at l c) (λ e. n (ap (λ v. v.line) e))))
    ∙ sum_one 32 u.column (λ c. f (at u.line c)) k (λ c n. z (at u.line c) (λ e. n (ap (λ v. v.column) e)))

module _ (b : Board) (e : Edge) where
  -- the test that e is an edge of the board and leads from v in direction d
  abbrev leads? : Direction → Vertex → Bool
  leads? d v = edge? b d v && same_edge e (along d v)

  -- it passes where e is that edge
  leads : (d : Direction) (v : Vertex) → IsEdge b e → along d v ≡ e → one (leads? d v) ≡ 1
  leads d v k p = ap one (and_yes (edge? b d v) _ ((edge_exact b d v).1 (rw p k)) ((same_edge_exact e (along d v)).1 (sym p)))

  -- and fails elsewhere
  leads-not : (d : Direction) (v : Vertex) → (e ≡ along d v → ⊥) → one (leads? d v) ≡ 0
  leads-not d v n = ap one (not_true _ (λ t. n ((same_edge_exact e (along d v)).0 (and_true (edge? b d v) _ t).1)))

  -- in one direction e is listed once for each place from which it leads so
  uses-going : (d : Direction) (vs : List Vertex) → uses e (going b d vs) ≡ length (select (leads? d) vs)
  unfolding uses select
  uses-going d [] = refl
  uses-going d (v ∷ vs) =
      let s = length_select (leads? d) v vs in let r = uses-going d vs in
      elim (bool (edge? b d v)) [ inl t ↦ rw t (omega (arith, rw t at s)) | inr t ↦ rw t (omega (arith, rw t at s)) ]

  -- and that can only be its left or upper end
  going-at : (d : Direction) → ((v : Vertex) → (along d v).from ≡ v) → (e.from.line < 32) × (e.from.column < 32)
      → uses e (going b d reading_order) ≡ one (leads? d e.from)
  going-at d s h =
      let framed = frame_one (λ v. one (leads? d v)) e.from h.0 h.1 (λ v n. leads-not d v (λ p. n (cc (s v)))) in
      omega (arith, uses-going d reading_order, count_framed (leads? d))

  -- in both directions together
  listed_at : (e.from.line < 32) × (e.from.column < 32) → uses e (edge_list b) ≡ one (leads? Right e.from) + one (leads? Down e.from)
  listed_at h = omega (arith, listed b e, going-at Right (λ v. refl) h, going-at Down (λ v. refl) h)

-- THE LAW: every edge of the board is listed just once
pub listed_once : (b : Board) → Within b → (e : Edge) → IsEdge b e → uses e (edge_list b) ≡ 1
listed_once b w e k = let u = e.from in elim (edge_spans b w e k) [
  | inl a ↦
      let right = leads b e Right u k (edge_eq (along Right u) e refl refl (sym a.to)) in
      let down = leads-not b e Down u (λ p. omega (arith, ap (λ f. f.to.column) p, ap (λ v. v.column) a.to)) in
      omega (arith, listed_at b e (a.line, omega (arith, a.column)))
  | inr a ↦
      let down = leads b e Down u k (edge_eq (along Down u) e refl refl (sym a.to)) in
      let right = leads-not b e Right u (λ p. omega (arith, ap (λ f. f.to.line) p, ap (λ v. v.line) a.to)) in
      omega (arith, listed_at b e (omega (arith, a.line), a.column))
]
