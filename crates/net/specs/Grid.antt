-- Definitions only: arrays with a place for each vertex of 32 lines and 32 columns, that of line l and column c at l * 32 + c.
-- Nothing is proved here: GridLaws has the laws.
use Rattle.std.specs.Prelude.{cond, List, ℕ, ◌+◌, ◌*◌, ltb, get_or, set}

-- the array with f of the entry of line l and column c; outside lines and columns 0 to 31 there is none
unfoldable pub changed_at : (ℕ → ℕ) → (line column : ℕ) → List ℕ → List ℕ
changed_at f l c a = cond (ltb l 32) (cond (ltb c 32) (set a (l * 32 + c) (f (get_or a (l * 32 + c) 0))) a) a
