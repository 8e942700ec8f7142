-- Definitions only: table, notes, lines and numbers as one run, and what is promised of a corner where a pair ends. Nothing is proved here.
use Rattle.std.specs.Prelude.{◌≡◌, List, Option, Some, None, ℕ, ◌+◌, ◌≤◌, ◌<◌, get_or, set}
use Rattle.router_notes.specs.Limits.{pair_limit}
use Rattle.router_notes.specs.declared.Table.{Table}
use Rattle.router_notes.specs.declared.Notes.{Notes}
use Rattle.router_notes.specs.declared.Lines.{Lines}
use Rattle.router_invariant.specs.Run.{Run, line_r, col_r, ul_r}
use Rattle.router_invariant.proofs.Step.{Step, Stuck, FirstR, end_r}
use Rattle.router_ends.specs.declared.Work.{Work}

abbrev pub run : Table → Notes → Lines → Work → Run
run t m l w = record {
  la = t.first;
  lb = t.second;
  ids = t.number;
  side = m.side;
  vert = m.vert;
  half = m.half;
  s1 = m.start;
  s2 = m.end;
  d1 = m.to_corner;
  d2 = m.from_corner;
  lo = l.first;
  hi = l.last;
  top = w.top;
  bottom = w.bottom;
  n = w.n;
  next = w.next;
  up = w.up;
}

-- a line without its first vertex, in column x
abbrev pub shorter : Lines → (line x : ℕ) → Lines
shorter l line x = record l { first = set l.first line (x + 1) }

-- numbers are those of pairs
abbrev pub Low : List ℕ → Type 0
Low ids = (k : ℕ) → get_or ids k 0 < pair_limit

-- how far a step can bring the numbers
abbrev pub Near : Work → Option Work → Type 0
Near w None = Unit {0}
Near w (Some r) = (r.top ≤ 31) × (r.bottom ≤ 31) × (r.n ≤ w.n + 1) × (r.next ≤ w.next + 2)

-- a step was made, or the router is stuck and says so
abbrev pub Went : Run → (Work → Run) → Option Work → Type 0
Went R R' None = Stuck R
Went R R' (Some r) = Step R (R' r)

-- the pairs' numbers, the notes of pairs and the last columns are as they were
abbrev pub PairsKept : (t : Table) (m : Notes) (l : Lines) (t' : Table) (m' : Notes) (l' : Lines) → Type 0
PairsKept t m l t' m' l' = (t'.number ≡ t.number) × (m'.half ≡ m.half) × (m'.start ≡ m.start) × (m'.end ≡ m.end) × (m'.to_corner ≡ m.to_corner)
    × (m'.from_corner ≡ m.from_corner) × (l'.last ≡ l.last)

-- two edges, and an end of row i at the corner
abbrev pub TwoEndsR : (R : Run) (R' : Work → Run) (line x i : ℕ) → Option Work → Type 0
TwoEndsR R R' line x i r = line ≡ line_r R → x ≡ col_r R → col_r R < end_r R → R.top < R.bottom → FirstR R (ul_r R) 0 i → Went R R' r

abbrev pub TwoEnds : (t : Table) (m : Notes) (l : Lines) (w : Work) (i line x : ℕ) (t' : Table) (m' : Notes) (l' : Lines) (r : Option Work) → Type 0
TwoEnds t m l w i line x t' m' l' r = TwoEndsR (run t m l w) (run t' m' l') line x i r

-- one edge, down or right: row i is the first with an end at the corner, if there is one
abbrev pub OneEdgeR : (R : Run) (R' : Work → Run) (line x i : ℕ) → Type 0 → Option Work → Type 0
OneEdgeR R R' line x i Case r = line ≡ line_r R → x ≡ col_r R → Case → FirstR R (ul_r R) 0 i → Went R R' r

abbrev pub OneDown : (t : Table) (m : Notes) (l : Lines) (w : Work) (i line x : ℕ) (t' : Table) (m' : Notes) (r : Option Work) → Type 0
OneDown t m l w i line x t' m' r =
    OneEdgeR (run t m l w) (run t' m' l) line x i ((w.top < w.bottom) × (get_or l.last line 0 ≤ x)) r

abbrev pub OneRight : (t : Table) (m : Notes) (l : Lines) (w : Work) (i line x : ℕ) (t' : Table) (m' : Notes) (l' : Lines) (r : Option Work) → Type 0
OneRight t m l w i line x t' m' l' r = OneEdgeR (run t m l w) (run t' m' l') line x i (w.bottom ≤ w.top) r
