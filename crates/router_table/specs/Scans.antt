-- Definitions only: what the scans over the table of live pairs find. Nothing is proved here.
-- Row i has the ends la i and lb i, each a word 32 * line + column; o says that the shape is read upside down.
use Rattle.std.specs.Prelude.{◌≡◌, Bool, true, false, cond, List, ◌⊎◌, ℕ, ◌-◌, ◌/◌, ◌%◌, ◌≤◌, ◌<◌, get_or, eqb, leb}
use Rattle.count.specs.Sum.{sum}
use Rattle.corner.specs.Pairs.{apart}

-- no row of from .. i - 1 has an end at v
abbrev pub Clear : List ℕ → List ℕ → ℕ → ℕ → ℕ → Type 0
Clear la lb v from i = (k : ℕ) → from ≤ k → k < i → (get_or la k 0 ≡ v → ⊥) × (get_or lb k 0 ≡ v → ⊥)

-- r is the first row from `from` on with an end at v, or n
pub record First (la lb : List ℕ) (v from n r : ℕ) : Type 0 where
  pub least : from ≤ r
  pub most : r ≤ n
  pub before : Clear la lb v from r
  pub found : r < n → (get_or la r 0 ≡ v) ⊎ (get_or lb r 0 ≡ v)

-- how many of n rows cross the column cut x
unfoldable pub cross_d : List ℕ → List ℕ → ℕ → ℕ → ℕ
cross_d la lb x n = sum n (λ i. apart (leb (get_or la i 0 % 32) x) (leb (get_or lb i 0 % 32) x))

-- how many have just one end on line l
unfoldable pub leave_d : List ℕ → List ℕ → ℕ → ℕ → ℕ
leave_d la lb l n = sum n (λ i. apart (eqb (get_or la i 0 / 32) l) (eqb (get_or lb i 0 / 32) l))

-- line l as the shape is read, and back
abbrev pub seen_d : Bool → ℕ → ℕ
seen_d true l = 31 - l
seen_d false l = l

-- the line, as the shape is read, of the right end of a pair that crosses the column cut x; 32 where it does not cross
unfoldable pub depth_d : ℕ → ℕ → ℕ → Bool → ℕ
depth_d a b x o = cond (leb (a % 32) x) (cond (leb (b % 32) x) 32 (seen_d o (b / 32))) (cond (leb (b % 32) x) (seen_d o (a / 32)) 32)

abbrev pub depth_at : List ℕ → List ℕ → ℕ → Bool → ℕ → ℕ
depth_at la lb x o i = depth_d (get_or la i 0) (get_or lb i 0) x o

-- r is a row whose depth is least, or n where none crosses
pub record Least (la lb : List ℕ) (n x : ℕ) (o : Bool) (r : ℕ) : Type 0 where
  pub most : r ≤ n
  pub found : r < n → depth_at la lb x o r < 32
  pub lowest : r < n → (k : ℕ) → k < n → depth_at la lb x o r ≤ depth_at la lb x o k
  pub none : r ≡ n → (k : ℕ) → k < n → 32 ≤ depth_at la lb x o k

-- the least depth of rows 0 .. i - 1 is d, found at r; or it is 32 and r is n
pub record LeastSo (la lb : List ℕ) (n x : ℕ) (o : Bool) (i r d : ℕ) : Type 0 where
  pub at : ((r ≡ n) × (d ≡ 32)) ⊎ ((r < i) × (d ≡ depth_at la lb x o r) × (d < 32))
  pub lowest : (k : ℕ) → k < i → d ≤ depth_at la lb x o k

-- of two pairs at the corner with far ends s and t: the second goes right. The corner is on line l and in column x.
unfoldable pub swap_d : ℕ → ℕ → ℕ → ℕ → Bool
swap_d s t l x = cond (eqb (s / 32) l) (cond (eqb (t / 32) l) (leb (s % 32) x) false) (cond (eqb (t / 32) l) true (leb (s % 32) x))
