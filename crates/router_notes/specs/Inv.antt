-- Definitions only: the invariant of the router's main loop. Pairs and notes have the board's own coordinates; o says that the shape is
-- read upside down, so that a turn changes no array. Nothing is proved here.
use Rattle.std.specs.Prelude.{◌≡◌, Bool, true, false, ◌⊎◌, ℕ, suc, ◌-◌, ◌≤◌, ◌<◌}
use Rattle.board.specs.declared.Vertex.{Vertex}
use Rattle.corner.specs.Shape.{Shape, present, Good, last, UL}
use Rattle.corner.proofs.Flip.{over}
use Rattle.corner.specs.Trails.{hor, ver}
use Rattle.router_notes.specs.Notes.{Move, Item, item, fwd, bwd}
use Rattle.router_notes.specs.State.{State, Live, Leads, Fine}
use Rattle.router_notes.specs.Table.{pairs_of}

-- the vertex as the shape sees it, and back: the same map
abbrev pub turn : Bool → Vertex → Vertex
turn false v = v
turn true v = over v

abbrev pub turn_i : Bool → Item → Item
turn_i o x = item x.id (turn o x.a) (turn o x.b)

-- every end lies in the frame
abbrev pub Framed : State → Type 0
Framed s = (i : ℕ) → i < s.n → ((s.it i).a.line ≤ last) × ((s.it i).b.line ≤ last)

-- s0 leads to s, whose live pairs are a good problem on S; what is left of the board is S
pub record Inv (s0 s : State) (S : Shape) (o : Bool) : Type 0 where
  pub lead : Leads s0 s
  pub fine : Fine s
  pub good : Good S (pairs_of s.n (λ i. turn_i o (s.it i)))
  pub link : (v : Vertex) → v.line ≤ last → s.left v ≡ present S (turn o v).line (turn o v).column
  pub out : (v : Vertex) → last < v.line → s.left v ≡ false
  pub frame : Framed s

-- the two moves from the corner, on the board
unfoldable pub across_move : Bool → Shape → Move
across_move o S = fwd (hor (turn o (UL S)).line (S.a S.top))

unfoldable pub down_move : Bool → Shape → Move
down_move false S = fwd (ver S.top (S.a S.top))
down_move true S = bwd (ver (last - suc S.top) (S.a S.top))

-- ── what is shut when the shape loses its corner ──
pub record Shuts (s s' : State) (S S' : Shape) (o : Bool) : Type 0 where
  pub link : (v : Vertex) → v.line ≤ last → s'.left v ≡ present S' (turn o v).line (turn o v).column
  pub out : (v : Vertex) → last < v.line → s'.left v ≡ false

-- what a step leaves of the notes: only the corner's, only of live items
pub record Noted (s s' : State) (w : Vertex) : Type 0 where
  pub go : (k : ℕ) (v : Vertex) → (s'.notes.go k v ≡ s.notes.go k v) ⊎ ((w ≡ v) × Live s k)
  pub part : (k : ℕ) → s'.notes.part k ≡ s.notes.part k
