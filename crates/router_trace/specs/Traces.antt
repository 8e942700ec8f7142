-- Definitions only: the directions that the note arrays give to a pair. The number of moves of an end, and of later divisions, is bounded,
-- so that any arrays give some. Nothing is proved here.
use Rattle.std.specs.Prelude.{cond, List, [], ◌∷◌, ◌++◌, ℕ, zero, suc, ◌+◌, ◌/◌, ◌%◌, ltb, eqb, get_or}
use Rattle.router_notes.specs.Limits.{last_pair, path_limit}
use Rattle.router_notes.specs.Arrays.{hop_d}
use Rattle.router_notes.specs.declared.Notes.{Notes}
use Rattle.router_trace.specs.Hops.{line_d, column_d, opp_d}

-- the moves of pair k's end that stands at line l and column c
unfoldable pub fore_d : (side vert : List ℕ) (k fuel l c : ℕ) → List ℕ
fore_d side vert k zero l c = []
fore_d side vert k (suc f) l c =
    cond (eqb (hop_d side vert k l c) 4) []
    (hop_d side vert k l c ∷ fore_d side vert k f (line_d (hop_d side vert k l c) l) (column_d (hop_d side vert k l c) c))

-- and backwards
unfoldable pub back_d : (side vert : List ℕ) (k fuel l c : ℕ) → List ℕ
back_d side vert k zero l c = []
back_d side vert k (suc f) l c =
    cond (eqb (hop_d side vert k l c) 4) []
    (back_d side vert k f (line_d (hop_d side vert k l c) l) (column_d (hop_d side vert k l c) c) ++ (opp_d (hop_d side vert k l c) ∷ []))

-- "its path is the halves' paths joined in order": the first end's moves, the first half, the two moves at the corner, the second half,
-- and the second end's moves backwards
unfoldable pub path_d : (side vert half s1 s2 d1 d2 : List ℕ) (later k : ℕ) → List ℕ
path_d side vert half s1 s2 d1 d2 zero k = []
path_d side vert half s1 s2 d1 d2 (suc f) k =
    fore_d side vert k path_limit (get_or s1 k 0 / 32) (get_or s1 k 0 % 32)
    ++ (cond (eqb (get_or half k 0) 0) []
    (cond (ltb (get_or half k 0) last_pair)
    (path_d side vert half s1 s2 d1 d2 f (get_or half k 0)
    ++ (get_or d1 k 0 ∷ get_or d2 k 0 ∷ path_d side vert half s1 s2 d1 d2 f (get_or half k 0 + 1)))
    [])
    ++ back_d side vert k path_limit (get_or s2 k 0 / 32) (get_or s2 k 0 % 32))

-- the path of pair k
abbrev pub path_of : Notes → (later : ℕ) → ℕ → List ℕ
path_of m later = path_d m.side m.vert m.half m.start m.end m.to_corner m.from_corner later
