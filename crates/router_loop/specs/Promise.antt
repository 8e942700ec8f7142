-- Definitions only: what the router promises. Nothing is proved here.
-- From a start that is in order the router comes to a run that is in order and has no live pair; its notes route the start.
use Rattle.std.specs.Prelude.{◌≡◌, Bool, true, ℕ, ◌+◌, ◌≤◌}
use Rattle.corner.specs.Shape.{vertices, Top}
use Rattle.router_notes.specs.Limits.{vertex_limit}
use Rattle.router_notes.specs.State.{State}
use Rattle.router_notes.specs.declared.Table.{Table}
use Rattle.router_notes.specs.declared.Notes.{Notes}
use Rattle.router_notes.specs.declared.Lines.{Lines}
use Rattle.router_invariant.specs.Run.{Run, Holds, Sized, shape_r}
use Rattle.router_ends.specs.declared.Work.{Work}
use Rattle.router_ends.specs.View.{run}

-- the numbers that a turn keeps
abbrev pub Kept : Work → Work → Type 0
Kept w r = (r.top ≤ 31) × (r.bottom ≤ 31) × (r.n ≡ w.n) × (r.next ≡ w.next)

-- read so that every line contains the top line
abbrev pub Turned : (l : Lines) (w r : Work) → Type 0
Turned l w r = (t : Table) (m : Notes) (s0 : State) → Holds s0 (run t m l w) → Holds s0 (run t m l r) × Top (shape_r (run t m l r))
    × (vertices (shape_r (run t m l r)) ≡ vertices (shape_r (run t m l w)))

abbrev pub CutAll : (t : Table) (m : Notes) (l : Lines) (w : Work) (t' : Table) (m' : Notes) (l' : Lines) (r : Bool) → Type 0
CutAll t m l w t' m' l' r = (s0 : State) → Holds s0 (run t m l w) → Sized (run t m l w)
    → (r ≡ true) × (v : Work) × (v.n ≡ 0) × Holds s0 (run t' m' l' v)

-- what the loop knows after t steps
abbrev pub After : (R0 R : Run) (t : ℕ) → Type 0
After R0 R t = (s0 : State) → Holds s0 R0 → Sized R0 → Holds s0 R × Sized R × (vertices (shape_r R) + t ≤ vertex_limit)
