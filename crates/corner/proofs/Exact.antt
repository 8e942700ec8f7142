-- Edges and vertices by the cells beside them, and edges from their other ends.
-- Assumes nothing.
use Rattle.std.specs.Prelude.{◌≡◌, refl, Bool, true, false, ◌&&◌, ◌||◌, ◌⊎◌, ◌↔◌, ℕ, suc, ◌-◌, ltb}
use Rattle.std.proofs.Common.{ap, sym, subst, inl, inr, arith, lt-ltb}
use Rattle.board.specs.Board.{
  Board,
  Cell,
  at,
  Edge,
  edge,
  Corner,
  Side,
  IsVertex,
  IsEdge,
  top_left,
  top_right,
  bottom_left,
  bottom_right,
  top_side,
  bottom_side,
  left_side,
  right_side,
}
use Rattle.board.specs.Degree.{cell?, below_right, below_left, above_right, above_left, edge?}
use Rattle.board.specs.Tests.{edge_exact}
use Rattle.board.specs.declared.Vertex.{Vertex}
use Rattle.board.specs.declared.Direction.TheVariants.{Up, Right, Down, Left}

-- ── edges ──
-- which side of its cell an edge is
pub side_case : (i j : ℕ) (e : Edge) → Side i j e
    → ((e ≡ edge (at i j) (at i (suc j))) ⊎ (e ≡ edge (at (suc i) j) (at (suc i) (suc j)))) ⊎
    ((e ≡ edge (at i j) (at (suc i) j)) ⊎ (e ≡ edge (at i (suc j)) (at (suc i) (suc j))))
side_case i j e top_side = inl (inl refl)
side_case i j e bottom_side = inl (inr refl)
side_case i j e left_side = inr (inl refl)
side_case i j e right_side = inr (inr refl)

-- a horizontal edge is the top or the bottom of a cell
pub level : (b : Board) (l c : ℕ) → IsEdge b (edge (at l c) (at l (suc c))) → (i : ℕ) × ((l ≡ i) ⊎ (l ≡ suc i)) × Cell b i c
level b l c h = elim (side_case h.0 h.1 (edge (at l c) (at l (suc c))) h.3) [
  | inl (inl q) ↦ (h.0, inl (ap (λ (e : Edge). e.from.line) q), subst (Cell b h.0) (sym (ap (λ (e : Edge). e.from.column) q)) h.2)
  | inl (inr q) ↦ (h.0, inr (ap (λ (e : Edge). e.from.line) q), subst (Cell b h.0) (sym (ap (λ (e : Edge). e.from.column) q)) h.2)
  | inr (inl q) ↦ absurd (omega (arith, ap (λ (e : Edge). e.from.column) q, ap (λ (e : Edge). e.to.column) q))
  | inr (inr q) ↦ absurd (omega (arith, ap (λ (e : Edge). e.from.column) q, ap (λ (e : Edge). e.to.column) q))
]

pub level_edge : (b : Board) (l c i : ℕ) → (l ≡ i) ⊎ (l ≡ suc i) → Cell b i c → IsEdge b (edge (at l c) (at l (suc c)))
level_edge b l c i (inl e) k = (i, c, k, subst (λ m. Side i c (edge (at m c) (at m (suc c)))) (sym e) top_side)
level_edge b l c i (inr e) k = (i, c, k, subst (λ m. Side i c (edge (at m c) (at m (suc c)))) (sym e) bottom_side)

-- an upright edge is the left or the right side of a cell
pub upright : (b : Board) (l c : ℕ) → IsEdge b (edge (at l c) (at (suc l) c)) → (j : ℕ) × ((c ≡ j) ⊎ (c ≡ suc j)) × Cell b l j
upright b l c h = elim (side_case h.0 h.1 (edge (at l c) (at (suc l) c)) h.3) [
  | inl (inl q) ↦ absurd (omega (arith, ap (λ (e : Edge). e.from.line) q, ap (λ (e : Edge). e.to.line) q))
  | inl (inr q) ↦ absurd (omega (arith, ap (λ (e : Edge). e.from.line) q, ap (λ (e : Edge). e.to.line) q))
  | inr (inl q) ↦ (h.1, inl (ap (λ (e : Edge). e.from.column) q), subst (λ i. Cell b i h.1) (sym (ap (λ (e : Edge). e.from.line) q)) h.2)
  | inr (inr q) ↦ (h.1, inr (ap (λ (e : Edge). e.from.column) q), subst (λ i. Cell b i h.1) (sym (ap (λ (e : Edge). e.from.line) q)) h.2)
]

pub upright_edge : (b : Board) (l c j : ℕ) → (c ≡ j) ⊎ (c ≡ suc j) → Cell b l j → IsEdge b (edge (at l c) (at (suc l) c))
upright_edge b l c j (inl e) k = (l, j, k, subst (λ m. Side l j (edge (at l m) (at (suc l) m))) (sym e) left_side)
upright_edge b l c j (inr e) k = (l, j, k, subst (λ m. Side l j (edge (at l m) (at (suc l) m))) (sym e) right_side)

-- no edge has only one end
pub no_loop : (b : Board) (v : Vertex) → IsEdge b (edge v v) → ⊥
no_loop b v h = elim (side_case h.0 h.1 (edge v v) h.3) [
  | inl (inl q) ↦ omega (arith, ap (λ (e : Edge). e.from.column) q, ap (λ (e : Edge). e.to.column) q)
  | inl (inr q) ↦ omega (arith, ap (λ (e : Edge). e.from.column) q, ap (λ (e : Edge). e.to.column) q)
  | inr (inl q) ↦ omega (arith, ap (λ (e : Edge). e.from.line) q, ap (λ (e : Edge). e.to.line) q)
  | inr (inr q) ↦ omega (arith, ap (λ (e : Edge). e.from.line) q, ap (λ (e : Edge). e.to.line) q)
]

pub right_exact : (b : Board) (l c : ℕ) → (edge? b Right (at l c) ≡ true) ↔ IsEdge b (edge (at l c) (at l (suc c)))
right_exact b l c = edge_exact b Right (at l c)

pub down_exact : (b : Board) (l c : ℕ) → (edge? b Down (at l c) ≡ true) ↔ IsEdge b (edge (at l c) (at (suc l) c))
down_exact b l c = edge_exact b Down (at l c)

-- ── the same edge from its other end ──
pub up_down : (b : Board) (l c : ℕ) → edge? b Up (at (suc l) c) ≡ edge? b Down (at l c)
unfolding edge? above_left above_right below_left below_right
up_down b l c = let q : suc l - 1 ≡ l = omega arith in rw (lt-ltb 0 (suc l) (omega arith), q) refl

pub left_right : (b : Board) (l c : ℕ) → edge? b Left (at l (suc c)) ≡ edge? b Right (at l c)
unfolding edge? above_left above_right below_left below_right
left_right b l c = let q : suc c - 1 ≡ c = omega arith in rw (lt-ltb 0 (suc c) (omega arith), q) (go (ltb 0 l))
  where
    go : (t : Bool) → ((t && true) && cell? b (l - 1) c) || cell? b l c ≡ (t && cell? b (l - 1) c) || cell? b l c
    go true = refl
    go false = refl

pub up_none : (b : Board) (c : ℕ) → edge? b Up (at 0 c) ≡ false
unfolding edge? above_left above_right
up_none b c = refl

pub left_none : (b : Board) (l : ℕ) → edge? b Left (at l 0) ≡ false
unfolding edge? above_left below_left
left_none b l = go (ltb 0 l)
  where
    go : (t : Bool) → ((t && false) && cell? b (l - 1) (0 - 1)) || false ≡ false
    go true = refl
    go false = refl

-- ── vertices ──
corner_case : (i j : ℕ) (v : Vertex) → Corner i j v → ((v ≡ at i j) ⊎ (v ≡ at i (suc j))) ⊎ ((v ≡ at (suc i) j) ⊎ (v ≡ at (suc i) (suc j)))
corner_case i j v top_left = inl (inl refl)
corner_case i j v top_right = inl (inr refl)
corner_case i j v bottom_left = inr (inl refl)
corner_case i j v bottom_right = inr (inr refl)

-- a vertex is on the top or the bottom line of a cell, in its left or its right column
abbrev pub Near : ℕ → ℕ → Type 0
Near n i = (n ≡ i) ⊎ (n ≡ suc i)

pub vertex_cell : (b : Board) (v : Vertex) → IsVertex b v → (i : ℕ) × (j : ℕ) × Near v.line i × Near v.column j × Cell b i j
vertex_cell b v h = elim (corner_case h.0 h.1 v h.3) [
  | inl (inl q) ↦ (h.0, h.1, inl (ap (λ (u : Vertex). u.line) q), inl (ap (λ (u : Vertex). u.column) q), h.2)
  | inl (inr q) ↦ (h.0, h.1, inl (ap (λ (u : Vertex). u.line) q), inr (ap (λ (u : Vertex). u.column) q), h.2)
  | inr (inl q) ↦ (h.0, h.1, inr (ap (λ (u : Vertex). u.line) q), inl (ap (λ (u : Vertex). u.column) q), h.2)
  | inr (inr q) ↦ (h.0, h.1, inr (ap (λ (u : Vertex). u.line) q), inr (ap (λ (u : Vertex). u.column) q), h.2)
]

pub cell_vertex : (b : Board) (v : Vertex) (i j : ℕ) → Near v.line i → Near v.column j → Cell b i j → IsVertex b v
cell_vertex b v i j (inl p) (inl q) k = (i, j, k, subst (Corner i j) (λ t. at (sym p t) (sym q t)) top_left)
cell_vertex b v i j (inl p) (inr q) k = (i, j, k, subst (Corner i j) (λ t. at (sym p t) (sym q t)) top_right)
cell_vertex b v i j (inr p) (inl q) k = (i, j, k, subst (Corner i j) (λ t. at (sym p t) (sym q t)) bottom_left)
cell_vertex b v i j (inr p) (inr q) k = (i, j, k, subst (Corner i j) (λ t. at (sym p t) (sym q t)) bottom_right)
