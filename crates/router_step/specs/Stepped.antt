-- Definitions only: what is promised of the whole step. Nothing is proved here.
use Rattle.std.specs.Prelude.{Option, ◌<◌}
use Rattle.router_notes.specs.declared.Table.{Table}
use Rattle.router_notes.specs.declared.Notes.{Notes}
use Rattle.router_notes.specs.declared.Lines.{Lines}
use Rattle.router_invariant.specs.Run.{col_r}
use Rattle.router_ends.specs.declared.Work.{Work}
use Rattle.router_ends.specs.View.{run, Went}

-- where the corner is in the frame, a step was made, or the router is stuck and says so
abbrev pub Stepped : (t : Table) (m : Notes) (l : Lines) (w : Work) (t' : Table) (m' : Notes) (l' : Lines) (r : Option Work) → Type 0
Stepped t m l w t' m' l' r = col_r (run t m l w) < 32 → Went (run t m l w) (run t' m' l') r
