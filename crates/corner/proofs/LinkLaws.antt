-- The edges of a board as unit edges: which they are, the degree of a vertex, the edges of a cut, and one step of a path.
-- Assumes, for the frame, that the board is within the limits; else nothing.
use Rattle.std.specs.Prelude.{◌≡◌, refl, true, false, ◌⊎◌, ◌↔◌, ℕ, zero, suc, ◌-◌}
use Rattle.std.proofs.Common.{ap, ap₂, sym, subst, inl, inr, arith}
use Rattle.count.specs.Truth.{one}
use Rattle.count.specs.TruthLaws.{bool, clash, not_true, bool_eq, and_true, and_yes}
use Rattle.count.specs.Sum.{count}
use Rattle.board.specs.Board.{Board, Within, at, Edge, edge, IsVertex, IsEdge}
use Rattle.board.specs.Path.{next, along}
use Rattle.board.specs.Degree.{edge?, degree}
use Rattle.board.specs.declared.Vertex.{Vertex}
use Rattle.board.specs.declared.Direction.{Direction}
use Rattle.board.specs.declared.Direction.TheVariants.{Up, Right, Down, Left}
use Rattle.net.specs.Terminals.{same}
use Rattle.cut.specs.declared.Cut.{Cut}
use Rattle.cut.specs.declared.Cut.TheVariants.{Row, Column}
use Rattle.cut.specs.Cut.{edges}
use Rattle.routing_rules.specs.Routing.{same_edge}
use Rattle.net.specs.Same.{same_true, same_self}
use Rattle.corner.specs.Shape.{size}
use Rattle.corner.specs.Trails.{Link, hor, ver, lo, hi, Ends, same_link, cap_of, InFrame}
use Rattle.corner.proofs.TrailLaws.{link_self, link_true}
use Rattle.corner.proofs.Around.{prior, around}
use Rattle.corner.proofs.Exact.{
  side_case,
  level,
  upright,
  no_loop,
  right_exact,
  down_exact,
  up_down,
  left_right,
  up_none,
  left_none,
  cell_vertex,
}
use Rattle.corner.specs.Links.{on_board, edge_of, link_of, forward, backward}

pub on_exact : (b : Board) (e : Link) → (on_board b e ≡ true) ↔ IsEdge b (edge_of e)
on_exact b (hor l c) = right_exact b l c
on_exact b (ver l c) = down_exact b l c

pub on_frame : (b : Board) → Within b → InFrame (on_board b)
unfolding size
on_frame b W (hor l c) e = let k = level b l c ((right_exact b l c).0 e) in let h = k.2.row in (
  elim k.1 [ inl q ↦ omega (arith, W.few) | inr q ↦ omega (arith, W.few) ],
  omega (arith, k.2.to, W.fits k.0 h),
)
on_frame b W (ver l c) e = let k = upright b l c ((down_exact b l c).0 e) in let h = k.2.row in (
  omega (arith, W.few),
  elim k.1 [ inl q ↦ omega (arith, k.2.to, W.fits l h) | inr q ↦ omega (arith, k.2.to, W.fits l h) ],
)

-- ── counts ──
pub degree_around : (b : Board) (l c : ℕ) → degree b (at l c) ≡ around (λ e. one (on_board b e)) l c
unfolding degree around
degree_around b l c = omega (arith, up l, left c)
  where
    up : (k : ℕ) → one (edge? b Up (at k c)) ≡ prior (λ j. one (edge? b Down (at j c))) k
    up zero = ap one (up_none b c)
    up (suc k) = ap one (up_down b k c)

    left : (k : ℕ) → one (edge? b Left (at l k)) ≡ prior (λ j. one (edge? b Right (at l j))) k
    left zero = ap one (left_none b l)
    left (suc k) = ap one (left_right b l k)

pub edges_cap : (b : Board) (X : Cut) → edges b X ≡ cap_of (on_board b) X
unfolding edges count cap_of size
edges_cap b (Row i) = refl
edges_cap b (Column j) = refl

-- ── unit edges and edges ──
pub edge_link : (e f : Link) → edge_of e ≡ edge_of f → e ≡ f
edge_link (hor l c) (hor m d) q = ap₂ hor (ap (λ (e : Edge). e.from.line) q) (ap (λ (e : Edge). e.from.column) q)
edge_link (ver l c) (ver m d) q = ap₂ ver (ap (λ (e : Edge). e.from.line) q) (ap (λ (e : Edge). e.from.column) q)
edge_link (hor l c) (ver m d) q = absurd (omega (arith, ap (λ (e : Edge). e.from.line) q, ap (λ (e : Edge). e.to.line) q))
edge_link (ver l c) (hor m d) q = absurd (omega (arith, ap (λ (e : Edge). e.from.line) q, ap (λ (e : Edge). e.to.line) q))

pub same_edge_true : (e f : Edge) → same_edge e f ≡ true → e ≡ f
same_edge_true e f h = let k = and_true (same e.from f.from) (same e.to f.to) h in
    λ i. record { from = same_true e.from f.from k.0 i; to = same_true e.to f.to k.1 i }

pub same_edge_self : (e : Edge) → same_edge e e ≡ true
same_edge_self e = and_yes _ _ (same_self e.from) (same_self e.to)

pub same_edge_link : (e f : Link) → same_edge (edge_of e) (edge_of f) ≡ same_link e f
same_edge_link e f = bool_eq (same_edge (edge_of e) (edge_of f)) (same_link e f)
    (λ h. subst (λ g. same_link e g ≡ true) (edge_link e f (same_edge_true (edge_of e) (edge_of f) h)) (link_self e))
    (λ h. subst (λ g. same_edge (edge_of e) (edge_of g) ≡ true) (link_true e f h) (same_edge_self (edge_of e)))

-- an edge is a unit edge or is none
pub link_case : (g : Edge) → ((f : Link) × (g ≡ edge_of f)) ⊎ ((f : Link) → same_edge g (edge_of f) ≡ false)
link_case g = elim (bool (same g.to (at g.from.line (suc g.from.column)))) [
  | inl h ↦ inl (hor g.from.line g.from.column, ap (edge g.from) (same_true g.to (at g.from.line (suc g.from.column)) h))
  | inr h ↦ elim (bool (same g.to (at (suc g.from.line) g.from.column))) [
    | inl k ↦ inl (ver g.from.line g.from.column, ap (edge g.from) (same_true g.to (at (suc g.from.line) g.from.column) k))
    | inr k ↦ inr (λ f. not_true (same_edge g (edge_of f)) (λ e. neither f (same_edge_true g (edge_of f) e) h k))
  ]
]
  where
    neither : (f : Link) → g ≡ edge_of f → same g.to (at g.from.line (suc g.from.column)) ≡ false
        → same g.to (at (suc g.from.line) g.from.column) ≡ false → ⊥
    neither (hor m d) q h k = clash (subst (λ (e : Edge). same e.to (at e.from.line (suc e.from.column)) ≡ true) (sym q)
        (same_self (at m (suc d)))) h
    neither (ver m d) q h k = clash (subst (λ (e : Edge). same e.to (at (suc e.from.line) e.from.column) ≡ true) (sym q)
        (same_self (at (suc m) d))) k

-- the edges of a board are unit edges, and their ends are vertices
pub edge_unit : (b : Board) (e : Edge) → IsEdge b e → (f : Link) × (e ≡ edge_of f)
edge_unit b e h = elim (side_case h.0 h.1 e h.3) [
  | inl (inl q) ↦ (hor h.0 h.1, q)
  | inl (inr q) ↦ (hor (suc h.0) h.1, q)
  | inr (inl q) ↦ (ver h.0 h.1, q)
  | inr (inr q) ↦ (ver h.0 (suc h.1), q)
]

pub link_vertices : (b : Board) (e : Link) → on_board b e ≡ true → IsVertex b (lo e) × IsVertex b (hi e)
link_vertices b (hor l c) o = let k = level b l c ((right_exact b l c).0 o) in
    (cell_vertex b (at l c) k.0 c k.1 (inl refl) k.2, cell_vertex b (at l (suc c)) k.0 c k.1 (inr refl) k.2)
link_vertices b (ver l c) o = let k = upright b l c ((down_exact b l c).0 o) in
    (cell_vertex b (at l c) l k.0 (inl refl) k.1 k.2, cell_vertex b (at (suc l) c) l k.0 (inr refl) k.1 k.2)

-- ── one step of a path ──
abbrev pub Stepped : Board → Direction → Vertex → Type 0
Stepped b d v = (on_board b (link_of d v) ≡ true) × (along d v ≡ edge_of (link_of d v)) × Ends v (next d v) (link_of d v)

up_step : (b : Board) (l c : ℕ) → IsEdge b (along Up (at l c)) → Stepped b Up (at l c)
up_step b zero c h = absurd (no_loop b (at 0 c) h)
up_step b (suc l) c h = let q : suc l - 1 ≡ l = omega arith in (
  (down_exact b l c).1 (subst (λ m. IsEdge b (edge (at m c) (at (suc l) c))) q h),
  ap (λ m. edge (at m c) (at (suc l) c)) q,
  inr (refl, ap (λ m. at m c) q),
)

left_step : (b : Board) (l c : ℕ) → IsEdge b (along Left (at l c)) → Stepped b Left (at l c)
left_step b l zero h = absurd (no_loop b (at l 0) h)
left_step b l (suc c) h = let q : suc c - 1 ≡ c = omega arith in (
  (right_exact b l c).1 (subst (λ m. IsEdge b (edge (at l m) (at l (suc c)))) q h),
  ap (λ m. edge (at l m) (at l (suc c))) q,
  inr (refl, ap (λ m. at l m) q),
)

pub step_link : (b : Board) (d : Direction) (v : Vertex) → IsEdge b (along d v) → Stepped b d v
step_link b Up v h = up_step b v.line v.column h
step_link b Right v h = ((right_exact b v.line v.column).1 h, refl, inl (refl, refl))
step_link b Down v h = ((down_exact b v.line v.column).1 h, refl, inl (refl, refl))
step_link b Left v h = left_step b v.line v.column h

-- and of a walk, forwards and backwards
pub forward_step : (e : Link) → (along (forward e) (lo e) ≡ edge_of e) × (next (forward e) (lo e) ≡ hi e)
forward_step (hor l c) = (refl, refl)
forward_step (ver l c) = (refl, refl)

pub backward_step : (e : Link) → (along (backward e) (hi e) ≡ edge_of e) × (next (backward e) (hi e) ≡ lo e)
backward_step (hor l c) = let q : suc c - 1 ≡ c = omega arith in (ap (λ m. edge (at l m) (at l (suc c))) q, ap (λ m. at l m) q)
backward_step (ver l c) = let q : suc l - 1 ≡ l = omega arith in (ap (λ m. edge (at m c) (at (suc l) c)) q, ap (λ m. at m c) q)
