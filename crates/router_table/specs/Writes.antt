-- Definitions only: what the writes of each step leave in the table and in the notes. Nothing is proved here.
use Rattle.std.specs.Prelude.{◌≡◌, cond, List, ℕ, ◌+◌, ◌*◌, get_or, set, eqb}
use Rattle.router_notes.specs.declared.Table.{Table}
use Rattle.router_notes.specs.declared.Notes.{Notes}

-- the end of row i that does not stand at `from`
abbrev pub far_end : Table → ℕ → ℕ → ℕ
far_end t i from = cond (eqb (get_or t.first i 0) from) (get_or t.second i 0) (get_or t.first i 0)

-- the end of row i that stood at `from` stands at `to`
abbrev pub moved_a : List ℕ → ℕ → ℕ → ℕ → List ℕ
moved_a la i from to = cond (eqb (get_or la i 0) from) (set la i to) la

abbrev pub moved_b : List ℕ → List ℕ → ℕ → ℕ → ℕ → List ℕ
moved_b la lb i from to = cond (eqb (get_or la i 0) from) lb (set lb i to)

abbrev pub moved : Table → ℕ → ℕ → ℕ → Table
moved t i from to = record { first = moved_a t.first i from to; second = moved_b t.first t.second i from to; number = t.number }

-- the vertex ul has the notes s and v
abbrev pub left_by : Notes → ℕ → ℕ → ℕ → Notes
left_by m ul s v = record m { side = set m.side ul s; vert = set m.vert ul v }

-- row i's end went sideways, row j's down or up
pub record Split (t : Table) (m : Notes) (i j ul from nul bul up : ℕ) (t' : Table) (m' : Notes) : Type 0 where
  pub table_is : t' ≡ moved (moved t i from nul) j from bul
  pub notes_are : m' ≡ left_by m ul (get_or t.number i 0 + 1) (2 * get_or t.number j 0 + 2 + up)

-- row i is the first half, row n the second
abbrev pub divided : Table → (i n next x y : ℕ) → Table
divided t i n next x y = record {
  first = set t.first n y;
  second = set (set t.second i x) n (get_or t.second i 0);
  number = set (set t.number i next) n (next + 1);
}

-- pair k is divided: its halves are `next`, from a to x, and the pair after that, from y to b
abbrev pub divided_notes : Notes → (k next a b x y dx dy : ℕ) → Notes
divided_notes m k next a b x y dx dy = record m {
  half = set m.half k next;
  start = set (set m.start next a) (next + 1) y;
  end = set (set m.end next x) (next + 1) b;
  to_corner = set m.to_corner k dx;
  from_corner = set m.from_corner k dy;
}

-- row n is new
abbrev pub added : Table → (n next x y : ℕ) → Table
added t n next x y = record { first = set t.first n x; second = set t.second n y; number = set t.number n next }

-- row m took the place of row i
abbrev pub dropped : Table → (i m : ℕ) → Table
dropped t i m = record {
  first = set t.first i (get_or t.first m 0);
  second = set t.second i (get_or t.second m 0);
  number = set t.number i (get_or t.number m 0);
}
