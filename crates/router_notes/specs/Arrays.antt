-- Definitions only: the router's arrays as notes, as live pairs and as a state. Nothing is proved here.
-- A vertex is the word 32 * line + column. Of a deleted vertex v, side v is number + 1 of the pair that left it to the right, vert v is
-- 2 * number + 2 of the pair that left it downwards, or 2 * number + 3 upwards; 0 is nobody. Of a pair k, half k is the number of its first half
-- (the second has the next), 0 if it was not divided; s1 k and s2 k are the ends that it was made with, d1 k and d2 k the two directions at the
-- corner.
use Rattle.std.specs.Prelude.{Bool, ◌&&◌, cond, List, ℕ, ◌+◌, ◌-◌, ◌*◌, ◌/◌, ◌%◌, get_or, eqb, leb, ltb}
use Rattle.board.specs.Board.{at}
use Rattle.board.specs.declared.Vertex.{Vertex}
use Rattle.corner.specs.Shape.{Shape, present, last}
use Rattle.corner.specs.Trails.{hor, ver}
use Rattle.router_notes.specs.Limits.{last_pair}
use Rattle.router_notes.specs.Notes.{Move, finish, Item, item, Hop, Part, Notes, fwd, bwd, stay, on, whole, parted}
use Rattle.router_notes.specs.State.{State}
use Rattle.router_notes.specs.Inv.{turn}

abbrev pub vtx : ℕ → Vertex
vtx n = at (n / 32) (n % 32)

-- ── directions: 0 up, 1 right, 2 down, 3 left, and 4 for none ──
-- the move in direction d from v
unfoldable pub move_d : ℕ → Vertex → Move
move_d d v = cond (eqb d 1) (fwd (hor v.line v.column))
    (cond (eqb d 2) (fwd (ver v.line v.column)) (cond (eqb d 0) (bwd (ver (v.line - 1) v.column)) (bwd (hor v.line (v.column - 1)))))

-- where the end of pair k went from a vertex with notes s and v
unfoldable pub hop_at : ℕ → ℕ → ℕ → ℕ
hop_at s v k = cond (eqb s (k + 1)) 1 (cond (eqb v (2 * k + 2)) 2 (cond (eqb v (2 * k + 3)) 0 4))

-- from (l, c)
unfoldable pub hop_d : List ℕ → List ℕ → ℕ → ℕ → ℕ → ℕ
hop_d side vert k l c = cond (ltb l 32) (cond (ltb c 32) (hop_at (get_or side (l * 32 + c) 0) (get_or vert (l * 32 + c) 0) k) 4) 4

unfoldable pub hop_of : ℕ → Vertex → Hop
hop_of d v = cond (eqb d 4) stay (on (move_d d v))

-- ── the notes ──
module _ (side vert half s1 s2 d1 d2 : List ℕ) where
  -- pair k as it was made
  abbrev pub born : ℕ → Item
  born k = item k (vtx (get_or s1 k 0)) (vtx (get_or s2 k 0))

  -- (a first half above 2110 would leave no place for the second, and is none)
  unfoldable pub partD : ℕ → Part
  partD k = cond (eqb (get_or half k 0) 0) whole (cond (ltb (get_or half k 0) last_pair)
      (parted (born (get_or half k 0)) (move_d (get_or d1 k 0) (born (get_or half k 0)).b)
      (move_d (get_or d2 k 0) (finish (move_d (get_or d1 k 0) (born (get_or half k 0)).b))) (born (get_or half k 0 + 1)))
      whole)

  abbrev pub notesOf : Notes
  notesOf = record { go = λ k v. hop_of (hop_d side vert k v.line v.column) v; part = partD }

-- ── the live pairs and the state: row i has ends la i and lb i and the number ids i; what is left of the board is the shape ──
abbrev pub row_of : List ℕ → List ℕ → List ℕ → ℕ → Item
row_of la lb ids i = item (get_or ids i 0) (vtx (get_or la i 0)) (vtx (get_or lb i 0))

abbrev pub left_of : Shape → Bool → Vertex → Bool
left_of S o v = leb v.line last && present S (turn o v).line (turn o v).column

abbrev pub state_of : (la lb ids side vert half s1 s2 d1 d2 : List ℕ) (n next : ℕ) (S : Shape) (o : Bool) → State
state_of la lb ids side vert half s1 s2 d1 d2 n next S o = record {
  notes = notesOf side vert half s1 s2 d1 d2;
  left = left_of S o;
  n = n;
  it = row_of la lb ids;
  next = next;
}
