-- Definitions only: what is promised of a corner without an end. Nothing is proved here.
use Rattle.std.specs.Prelude.{◌≡◌, Bool, cond, Option, ℕ, ◌+◌, get_or}
use Rattle.router_notes.specs.declared.Table.{Table}
use Rattle.router_notes.specs.declared.Notes.{Notes}
use Rattle.router_notes.specs.declared.Lines.{Lines}
use Rattle.router_table.specs.Writes.{divided, divided_notes}
use Rattle.router_invariant.specs.Run.{Run, line_r, col_r}
use Rattle.router_invariant.specs.Divide.{dir1, dir2}
use Rattle.router_invariant.proofs.Step.{NoEnd}
use Rattle.router_ends.specs.declared.Work.{Work}
use Rattle.router_ends.specs.View.{run, Went}

-- row i is divided
pub record CutRow (t : Table) (m : Notes) (w : Work) (i : ℕ) (first : Bool) (nul bul : ℕ) (t' : Table) (m' : Notes) (r : Work) : Type 0 where
  pub table_is : t' ≡ divided t i w.n w.next (cond first nul bul) (cond first bul nul)
  pub notes_are : m' ≡ divided_notes m (get_or t.number i 0) w.next (get_or t.first i 0) (get_or t.second i 0)
      (cond first nul bul) (cond first bul nul) (dir1 first w.up) (dir2 first w.up)
  pub work_is : r ≡ record w { n = w.n + 1; next = w.next + 2 }

-- the notes of vertices and the last columns are as they were
abbrev pub VerticesKept : (m : Notes) (l : Lines) (m' : Notes) (l' : Lines) → Type 0
VerticesKept m l m' l' = (m'.side ≡ m.side) × (m'.vert ≡ m.vert) × (l'.last ≡ l.last)

-- two edges, and no end at the corner
abbrev pub NoEndsR : (R : Run) (R' : Work → Run) (line x : ℕ) → Option Work → Type 0
NoEndsR R R' line x r = line ≡ line_r R → x ≡ col_r R → NoEnd R → Went R R' r

abbrev pub NoEnds : (t : Table) (m : Notes) (l : Lines) (w : Work) (line x : ℕ) (t' : Table) (m' : Notes) (l' : Lines) (r : Option Work) → Type 0
NoEnds t m l w line x t' m' l' r = NoEndsR (run t m l w) (run t' m' l') line x r
