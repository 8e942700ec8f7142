-- Definitions only: trails as lists of unit edges, and routings as a trail for each pair. Nothing is proved here.
-- The board is any set J of unit edges: `joined S` for a shape, `on_board b` (see Links) for a board.
use Rattle.std.specs.Prelude.{◌≡◌, Bool, true, false, ◌&&◌, List, [], ◌∷◌, ◌⊎◌, ℕ, suc, ◌+◌, ◌≤◌, ◌<◌, min, eqb}
use Rattle.count.specs.Truth.{one}
use Rattle.count.specs.Sum.{sum}
use Rattle.board.specs.Board.{at}
use Rattle.board.specs.declared.Vertex.{Vertex}
use Rattle.net.specs.declared.Pair.{Pair}
use Rattle.cut.specs.declared.Cut.{Cut}
use Rattle.cut.specs.declared.Cut.TheVariants.{Row, Column}
use Rattle.corner.specs.Shape.{size, Shape, present, start}

-- a unit edge is named by its upper or left end
pub data Link : Type 0 where
  hor : ℕ → ℕ → Link
  ver : ℕ → ℕ → Link

abbrev pub lo : Link → Vertex
lo (hor l c) = at l c
lo (ver l c) = at l c

abbrev pub hi : Link → Vertex
hi (hor l c) = at l (suc c)
hi (ver l c) = at (suc l) c

-- u and v are its ends, in either order
abbrev pub Ends : Vertex → Vertex → Link → Type 0
Ends u v e = ((u ≡ lo e) × (v ≡ hi e)) ⊎ ((u ≡ hi e) × (v ≡ lo e))

abbrev pub same_link : Link → Link → Bool
same_link (hor l c) (hor m d) = eqb l m && eqb c d
same_link (hor l c) (ver m d) = false
same_link (ver l c) (hor m d) = false
same_link (ver l c) (ver m d) = eqb l m && eqb c d

-- the unit edges of a shape: both ends are present
abbrev pub joined : Shape → Link → Bool
joined S (hor l c) = present S l c && present S l (suc c)
joined S (ver l c) = present S l c && present S (suc l) c

-- the unit edges es lead from u to v, each in either direction
abbrev pub Walk : Vertex → List Link → Vertex → Type 0
Walk u [] v = u ≡ v
Walk u (e ∷ es) v = ((u ≡ lo e) × Walk (hi e) es v) ⊎ ((u ≡ hi e) × Walk (lo e) es v)

-- how often e is used
unfoldable pub used : Link → List Link → ℕ
used e [] = 0
used e (f ∷ es) = one (same_link e f) + used e es

abbrev pub Trail : Vertex → Vertex → Type 0
Trail u v = (es : List Link) × Walk u es v

abbrev pub Trails : List Pair → Type 0
Trails [] = Unit {0}
Trails (p ∷ ps) = Trail p.first p.second × Trails ps

-- how often e is used in all
unfoldable pub total : Link → (ps : List Pair) → Trails ps → ℕ
total e [] ts = 0
total e (p ∷ ps) ts = used e ts.0.0 + total e ps ts.1

-- how many of the trails use it
unfoldable pub sharers : Link → (ps : List Pair) → Trails ps → ℕ
sharers e [] ts = 0
sharers e (p ∷ ps) ts = min 1 (used e ts.0.0) + sharers e ps ts.1

-- a trail for each pair; a unit edge is used at most once, and only if it is there
pub record Routed (J : Link → Bool) (ps : List Pair) : Type 0 where
  pub trails : Trails ps
  pub once : (e : Link) → total e ps trails ≤ one (J e)

-- trails that are pairwise edge-disjoint; each may use its own edges again
pub record Disjoint (J : Link → Bool) (ps : List Pair) : Type 0 where
  pub trails : Trails ps
  pub once : (e : Link) → sharers e ps trails ≤ one (J e)

-- the corner's two edges
abbrev pub right_link : Shape → Link
right_link S = hor S.top (start S)

abbrev pub down_link : Shape → Link
down_link S = ver S.top (start S)

-- ── cuts of a set J of unit edges ──
-- the unit edges of a cut
abbrev pub slot : Cut → ℕ → Link
slot (Row r) c = ver r c
slot (Column x) l = hor l x

-- the edges that J has over a cut
unfoldable pub cap_of : (Link → Bool) → Cut → ℕ
cap_of J X = sum size (λ i. one (J (slot X i)))

-- all of them lie in the frame
abbrev pub InFrame : (Link → Bool) → Type 0
InFrame J = (e : Link) → J e ≡ true → ((lo e).line < size) × ((lo e).column < size)
