-- Definitions only: the state of the router, what its notes may become later, and when one state leads to another. Nothing is proved here.
-- Leads s t: whatever the notes become after t, a routing of the pairs that are live at t gives one of those that were live at s.
use Rattle.std.specs.Prelude.{◌≡◌, Bool, true, false, ◌&&◌, ◌⊎◌, ℕ, ◌≤◌, ◌<◌}
use Rattle.count.specs.Truth.{one}
use Rattle.board.specs.declared.Vertex.{Vertex}
use Rattle.net.specs.Terminals.{same}
use Rattle.corner.specs.Trails.{Link, lo, hi}
use Rattle.router_notes.specs.Notes.{Item, Notes, Routed, stay, whole}

-- the notes, the vertices that are left, the live pairs (row i of n), and the first number that no pair has had
pub record State : Type 0 where
  pub notes : Notes
  pub left : Vertex → Bool
  pub n : ℕ
  pub it : ℕ → Item
  pub next : ℕ

-- a unit edge may be used once while both its ends are left
abbrev pub room : (Vertex → Bool) → Link → ℕ
room o e = one (o (lo e) && o (hi e))

-- the number k is that of a live pair
abbrev pub Live : State → ℕ → Type 0
Live s k = (i : ℕ) × (i < s.n) × ((s.it i).id ≡ k)

-- N is what the notes of s may become
pub record Later (s : State) (N : Notes) : Type 0 where
  pub gone : (k : ℕ) (v : Vertex) → s.left v ≡ false → N.go k v ≡ s.notes.go k v
  pub dead : (k : ℕ) → k < s.next → (Live s k → ⊥) → (v : Vertex) → N.go k v ≡ s.notes.go k v
  pub kept : (k : ℕ) → k < s.next → (Live s k → ⊥) → N.part k ≡ s.notes.part k

abbrev pub Routes : Notes → State → Type 0
Routes N s = Routed N (room s.left) s.n s.it

abbrev pub Leads : State → State → Type 0
Leads s s' = (N : Notes) → Later s' N → Later s N × (Routes N s' → Routes N s)

-- nothing is noted at a vertex that is left, nor of halves of a live pair; numbers are used once
pub record Fine (s : State) : Type 0 where
  pub quiet : (k : ℕ) (v : Vertex) → s.left v ≡ true → s.notes.go k v ≡ stay
  pub uncut : (k : ℕ) → Live s k → s.notes.part k ≡ whole
  pub fresh : (k : ℕ) → s.next ≤ k → s.notes.part k ≡ whole
  pub ids : (i : ℕ) → i < s.n → (s.it i).id < s.next
  pub once : (i j : ℕ) → i < s.n → j < s.n → (s.it i).id ≡ (s.it j).id → i ≡ j

-- from s to t the vertex u is deleted; what is noted is noted at u, of live pairs
pub record Closes (s s' : State) (u : Vertex) : Type 0 where
  pub same_left : (v : Vertex) → same u v ≡ false → s'.left v ≡ s.left v
  pub shut : s'.left u ≡ false
  pub was : s.left u ≡ true
  pub same_go : (k : ℕ) (v : Vertex) → (s'.notes.go k v ≡ s.notes.go k v) ⊎ ((u ≡ v) × Live s k)
  pub same_part : (k : ℕ) → (s'.notes.part k ≡ s.notes.part k) ⊎ (Live s k × (Live s' k → ⊥))
  pub more : s.next ≤ s'.next
  pub live : (k : ℕ) → Live s' k → Live s k ⊎ (s.next ≤ k)
