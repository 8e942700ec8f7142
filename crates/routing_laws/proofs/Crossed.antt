-- Paths that join pairs have together at least as many edges as the pairs cross rows and columns.
-- Assumes nothing of the board, and of the paths only that they lead from the first end of each pair to the second.
-- One step of a path leads over one row or column at most, and where a row or column parts the two ends, some step leads over it.
use Rattle.std.specs.Prelude.{◌≡◌, refl, Bool, true, false, List, [], ◌∷◌, ℕ, zero, suc, ◌+◌, ◌-◌, ◌≤◌, leb, length}
use Rattle.std.proofs.Math.Bool.{xor}
use Rattle.std.proofs.Common.{inl, inr, arith}
use Rattle.count.specs.Truth.{one}
use Rattle.count.specs.TruthLaws.{one_le, eq_or_ne}
use Rattle.count.specs.Bits.{leb_next}
use Rattle.count.specs.Sum.{sum, sum_eq}
use Rattle.count.specs.Sums.{sum_le, sum_add, sum_none}
use Rattle.board.specs.Board.{Board, height}
use Rattle.board.specs.Path.{next, Path}
use Rattle.board.specs.declared.Vertex.{Vertex}
use Rattle.board.specs.declared.Direction.{Direction}
use Rattle.board.specs.declared.Direction.TheVariants.{Up, Right, Down, Left}
use Rattle.net.specs.declared.Pair.{Pair}
use Rattle.cut.specs.Cut.{crosses}
use Rattle.routing_rules.specs.Routing.{Joins}
use Rattle.call_rules.specs.Report.{edges_used}
use Rattle.call_rules.specs.Wire.{crossing_sum}
use Rattle.routing_laws.proofs.CrossingSum.{cuts_sum, crossed_by, crossing_none, crossing_more}

-- ── two numbers parted ──
xor_same : (a : Bool) → one (xor a a) ≡ 0
unfolding xor
xor_same true = refl
xor_same false = refl

xor_swap : (a b : Bool) → one (xor a b) ≡ one (xor b a)
unfolding xor
xor_swap true true = refl
xor_swap true false = refl
xor_swap false true = refl
xor_swap false false = refl

xor_by : (a b c : Bool) → one (xor a c) ≤ one (xor a b) + one (xor b c)
unfolding xor
xor_by true true c = omega arith
xor_by true false true = omega arith
xor_by true false false = omega arith
xor_by false true true = omega arith
xor_by false true false = omega arith
xor_by false false c = omega arith

-- DEFINITION: how many of 0, .., n - 1 part l from m: just one of the two is at most i
unfoldable parted : (l m n : ℕ) → ℕ
parted l m n = sum n (λ i. one (xor (leb l i) (leb m i)))

parted_same : (l n : ℕ) → parted l l n ≡ 0
unfolding parted
parted_same l n = sum_none n (λ i. one (xor (leb l i) (leb l i))) (λ i h. xor_same (leb l i))

parted_swap : (l m n : ℕ) → parted l m n ≡ parted m l n
unfolding parted
parted_swap l m n = sum_eq n (λ i. one (xor (leb l i) (leb m i))) (λ i. one (xor (leb m i) (leb l i))) (λ i h. xor_swap (leb l i) (leb m i))

-- by way of a third
parted-by : (l k m n : ℕ) → parted l m n ≤ parted l k n + parted k m n
unfolding parted
parted-by l k m n = omega (
  arith,
  sum_le n (λ i. one (xor (leb l i) (leb m i))) (λ i. one (xor (leb l i) (leb k i)) + one (xor (leb k i) (leb m i)))
      (λ i h. xor_by (leb l i) (leb k i) (leb m i)),
  sum_add n (λ i. one (xor (leb l i) (leb k i))) (λ i. one (xor (leb k i) (leb m i))),
)

-- neighbours are parted by one number at most
off : (l i : ℕ) → (i ≡ l → ⊥) → one (xor (leb l i) (leb (suc l) i)) ≡ 0
off l i h = rw (leb_next l i h) (xor_same (leb (suc l) i))

parted_next : (l n : ℕ) → parted l (suc l) n ≤ 1
unfolding parted sum
parted_next l zero = omega arith
parted_next l (suc n) = elim (eq_or_ne n l) [
  | inl e ↦ omega (
    arith,
    sum_none n (λ i. one (xor (leb l i) (leb (suc l) i))) (λ i h. off l i (λ z. omega arith)),
    one_le (xor (leb l n) (leb (suc l) n)),
  )
  | inr e ↦ omega (arith, parted_next l n, off l n e)
]

parted_before : (l n : ℕ) → parted l (l - 1) n ≤ 1
parted_before zero n = omega (arith, parted_same 0 n)
parted_before (suc l) n = let e : suc l - 1 ≡ l = omega arith in rw e (omega (arith, parted_swap (suc l) l n, parted_next l n))

-- ── along a path ──
-- DEFINITION: the rows and columns that part two vertices
abbrev apart : Board → Vertex → Vertex → ℕ
apart b u v = parted u.line v.line (height b) + parted u.column v.column 31

step : (b : Board) (d : Direction) (u : Vertex) → apart b u (next d u) ≤ 1
step b Up u = omega (arith, parted_before u.line (height b), parted_same u.column 31)
step b Right u = omega (arith, parted_same u.line (height b), parted_next u.column 31)
step b Down u = omega (arith, parted_next u.line (height b), parted_same u.column 31)
step b Left u = omega (arith, parted_same u.line (height b), parted_before u.column 31)

path_long : (b : Board) (u v : Vertex) (ds : List Direction) → Path b u ds v → apart b u v ≤ length ds
path_long b u v [] p = rw p (omega (arith, parted_same v.line (height b), parted_same v.column 31))
path_long b u v (d ∷ ds) p = omega (
  arith,
  step b d u,
  path_long b (next d u) v ds p.1,
  parted-by u.line (next d u).line v.line (height b),
  parted-by u.column (next d u).column v.column 31,
)

crossed_apart : (b : Board) (p : Pair) → crossed_by b p ≡ apart b p.first p.second
unfolding crossed_by parted crosses
crossed_apart b p = cuts_sum b (λ x. one (crosses x p))

-- THE LAW: "Every routing of those nets uses at least the first number of edges" (document 02, §11)
pub used_least : (b : Board) (ps : List Pair) (dss : List (List Direction)) → Joins b ps dss → crossing_sum b ps ≤ edges_used dss
unfolding edges_used
used_least b [] [] j = omega (arith, crossing_none b)
used_least b [] (ds ∷ dss) j = absurd j
used_least b (p ∷ ps) [] j = absurd j
used_least b (p ∷ ps) (ds ∷ dss) j = omega (
  arith,
  crossing_more b p ps,
  crossed_apart b p,
  path_long b p.first p.second ds j.0,
  used_least b ps dss j.1,
)
