-- Definitions only: where the router starts, and the tables of pairs that it starts on. Nothing is proved here.
use Rattle.std.specs.Prelude.{◌≡◌, false, List, ◌++◌, ℕ, ◌≤◌, replicate}
use Rattle.net.specs.declared.Pair.{Pair}
use Rattle.session_rules.specs.Session.{Session, pairs}
use Rattle.corner.specs.Shape.{Good}
use Rattle.corner.proofs.Lines.{lines_of}
use Rattle.router_notes.specs.Limits.{pair_limit, vertex_limit}
use Rattle.router_notes.specs.declared.Table as code
use Rattle.router_notes.specs.declared.Notes.{Notes}
use Rattle.router_ends.specs.declared.Work.{Work}
use Rattle.router_start.specs.Table.{Table, StartsKept}

-- all lines from 0 to `bottom`, and n pairs
abbrev pub first_work : (bottom n : ℕ) → Work
first_work bottom n = record { top = 0; bottom = bottom; up = false; n = n; next = n }

-- before anything is written
abbrev pub pair_zeros : List ℕ
pair_zeros = replicate pair_limit 0

abbrev pub vertex_zeros : List ℕ
vertex_zeros = replicate vertex_limit 0

abbrev pub blank_table : code.Table
blank_table = record { first = pair_zeros; second = pair_zeros; number = pair_zeros }

abbrev pub blank_notes : Notes
blank_notes = record {
  side = vertex_zeros;
  vert = vertex_zeros;
  half = pair_zeros;
  start = pair_zeros;
  end = pair_zeros;
  to_corner = pair_zeros;
  from_corner = pair_zeros;
}

-- n rows that hold the pairs of the nets, the first net's in row 0, and after them helpers. All of them together are good on the board's lines:
-- they stand on its vertices, every vertex is even and no cut is overfull.
-- Nothing else is noted.
pub record Filled (s : Session) (n : ℕ) (t : code.Table) (m : Notes) : Type 0 where
  pub ps : List Pair
  pub helpers : List Pair
  pub nets_first : pairs s.nets ++ helpers ≡ ps
  pub table : Table ps n t.first t.second t.number m.start m.end
  pub blank : StartsKept blank_notes m
  pub most : n ≤ 64
  pub good : Good (lines_of s.block.board) ps
