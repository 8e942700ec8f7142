-- Definitions only: how much the router's arrays hold. Nothing is proved here.
use Rattle.std.specs.Prelude.{ℕ}

-- the vertices of 32 lines and 32 columns
abbrev pub vertex_limit : ℕ
vertex_limit = 1024

-- the pairs that there can be: 64 at the start, and at most two more for each vertex; and the greatest number of one
abbrev pub pair_limit : ℕ
pair_limit = 2112

abbrev pub last_pair : ℕ
last_pair = 2111

-- the steps of a path: as many as 32 lines and 32 columns have unit edges, each vertex with those to its right and below it
abbrev pub path_limit : ℕ
path_limit = 2048
