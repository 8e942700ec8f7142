-- Definitions only: a path traced run by run, and the marks of its turns. Nothing is proved here.
-- A mark is 0 where no turn occurred, 1 where one did, and 2 where more did.
use Rattle.std.specs.Prelude.{cond, not, ◌&&◌, List, [], ◌∷◌, ℕ, ◌+◌, ◌-◌, ◌*◌, ◌≤◌, ltb, eqb, None, Some}
use Rattle.count.specs.Truth.{one}
use Rattle.board.specs.Path.{number}
use Rattle.board.specs.declared.Vertex.{Vertex}
use Rattle.board.specs.declared.Direction.{Direction}
use Rattle.board.specs.declared.Direction.TheVariants.{Up, Right, Down, Left}
use Rattle.words.specs.declared.Run.{Run}
use Rattle.judge_shape.specs.States.{Last}
use Rattle.net.specs.Grid.{changed_at}
use Rattle.judge_report.specs.declared.Trace.{Trace}

-- ── a run ──
-- 1 where the run begins with a turn
abbrev pub turn_by : Last → Run → ℕ
turn_by None r = 0
turn_by (Some e) r = cond (ltb 0 r.length && not (eqb (number e) (number r.direction))) 1 0

abbrev pub last_after : Last → Run → Last
last_after l r = cond (ltb 0 r.length) (Some r.direction) l

abbrev pub line_after : Direction → (line n : ℕ) → ℕ
line_after Up l n = l - n
line_after Right l n = l
line_after Down l n = l + n
line_after Left l n = l

abbrev pub column_after : Direction → (column n : ℕ) → ℕ
column_after Up c n = c
column_after Right c n = c + n
column_after Down c n = c
column_after Left c n = c - n

unfoldable pub trace_run : Trace → Run → Trace
trace_run t r = record {
  line = line_after r.direction t.line r.length;
  column = column_after r.direction t.column r.length;
  last = last_after t.last r;
  edges = t.edges + r.length;
  turns = t.turns + turn_by t.last r;
}

-- a run makes a trace longer by at most 255
pub record Grows (t r : Trace) : Type 0 where
  pub line : r.line ≤ t.line + 255
  pub column : r.column ≤ t.column + 255
  pub edges : r.edges ≤ t.edges + 255
  pub turns : r.turns ≤ t.turns + 1

-- the trace of k runs is short
pub record Short (k : ℕ) (t : Trace) : Type 0 where
  pub line : t.line ≤ 255 * k + 255
  pub column : t.column ≤ 255 * k + 255
  pub edges : t.edges ≤ 255 * k
  pub turns : t.turns ≤ k

abbrev pub begin : Vertex → Trace
begin v = record { line = v.line; column = v.column; last = None; edges = 0; turns = 0 }

-- ── the marks ──
-- the mark m after one more turn
abbrev pub marked : (m : ℕ) → ℕ
marked m = cond (eqb m 0) 1 2

abbrev pub mark_at : (line column : ℕ) → List ℕ → List ℕ
mark_at l c a = changed_at marked l c a

unfoldable pub mark_run : Trace → Run → List ℕ → List ℕ
mark_run t r a = cond (eqb (turn_by t.last r) 1) (mark_at t.line t.column a) a

-- how many marks say that two turns or more occurred
unfoldable pub knocks_in : List ℕ → ℕ
knocks_in [] = 0
knocks_in (m ∷ ms) = one (ltb 1 m) + knocks_in ms
