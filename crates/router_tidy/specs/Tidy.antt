-- Definitions only: what dropping trivial pairs leaves. Nothing is proved here.
use Rattle.std.specs.Prelude.{◌≡◌, ℕ, ◌<◌, get_or}
use Rattle.router_notes.specs.Limits.{pair_limit}
use Rattle.router_notes.specs.State.{State}
use Rattle.router_notes.specs.declared.Table.{Table}
use Rattle.router_invariant.specs.Run.{Run, Holds, Sized}

-- the run with another table of n rows
abbrev pub table_r : Run → (t : Table) (n : ℕ) → Run
table_r R t n = record {
  la = t.first;
  lb = t.second;
  ids = t.number;
  side = R.side;
  vert = R.vert;
  half = R.half;
  s1 = R.s1;
  s2 = R.s2;
  d1 = R.d1;
  d2 = R.d2;
  lo = R.lo;
  hi = R.hi;
  top = R.top;
  bottom = R.bottom;
  n = n;
  next = R.next;
  up = R.up;
}

-- the invariant is kept, whatever the start was, numbers stay low, and no row of 0 .. i - 1 is trivial
pub record Tidied (t : Table) (n : ℕ) (t' : Table) (m i : ℕ) : Type 0 where
  pub keeps : (s0 : State) (R : Run) → Holds s0 (table_r R t n) × Sized (table_r R t n) → Holds s0 (table_r R t' m) × Sized (table_r R t' m)
  pub low : ((k : ℕ) → get_or t.number k 0 < pair_limit) → (k : ℕ) → get_or t'.number k 0 < pair_limit
  pub proper : (k : ℕ) → k < i → get_or t'.first k 0 ≡ get_or t'.second k 0 → ⊥
