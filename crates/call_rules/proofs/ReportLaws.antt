-- How many turns occur at a vertex, one path on. Where at most two do, a knock-knee is two turns of one path or one each of two. What was a
-- knock-knee by the rule before is one.
-- Assumes nothing of the paths.
use Rattle.std.specs.Prelude.{◌≡◌, refl, true, List, [], ◌∷◌, ◌↔◌, ℕ, zero, suc, ◌+◌, ◌≤◌, ◌<◌, ltb, length, get_or}
use Rattle.std.proofs.Common.{inl, inr, arith, lt-ltb, ltb-true}
use Rattle.count.specs.TruthLaws.{bool}
use Rattle.count.specs.Lists.{select, tally}
use Rattle.board.specs.declared.Vertex.{Vertex}
use Rattle.board.specs.declared.Direction.{Direction}
use Rattle.net.specs.declared.Pair.{Pair}
use Rattle.call_rules.specs.Report.{
  turns_at,
  turns_of_each,
  total,
  turns_occurring,
  knock_knee,
  TwoTurns,
  of_one,
  of_two,
  knock_knee_of_nets,
}

-- ── the turns at a vertex ──
pub occurring_no_path : (v : Vertex) (ps : List Pair) → turns_occurring v ps [] ≡ 0
unfolding turns_occurring turns_of_each tally
occurring_no_path v [] = refl
occurring_no_path v (p ∷ ps) = refl

pub occurring_no_pair : (v : Vertex) (dss : List (List Direction)) → turns_occurring v [] dss ≡ 0
unfolding turns_occurring turns_of_each tally
occurring_no_pair v dss = refl

pub occurring_more : (v : Vertex) (p : Pair) (ps : List Pair) (ds : List Direction) (dss : List (List Direction))
    → turns_occurring v (p ∷ ps) (ds ∷ dss) ≡ turns_at v p.first ds + turns_occurring v ps dss
unfolding turns_occurring turns_of_each tally
occurring_more v p ps ds dss = refl

-- ── of one path or of two ──
later : {n : ℕ} {ns : List ℕ} → TwoTurns ns → TwoTurns (n ∷ ns)
later (of_one i h) = of_one (suc i) h
later (of_two i j l h k) = of_two (suc i) (suc j) (omega arith) h k

once : (ns : List ℕ) → total ns ≡ 1 → (i : ℕ) × (get_or ns i 0 ≡ 1)
unfolding tally
once [] e = absurd (omega arith)
once (zero ∷ ns) e = let (i, h) = once ns (omega arith) in (suc i, h)
once (suc zero ∷ ns) e = (0, refl)
once (suc (suc n) ∷ ns) e = absurd (omega arith)

twice : (ns : List ℕ) → total ns ≡ 2 → TwoTurns ns
unfolding tally
twice [] e = absurd (omega arith)
twice (zero ∷ ns) e = later (twice ns (omega arith))
twice (suc zero ∷ ns) e = let (j, h) = once ns (omega arith) in of_two 0 (suc j) (omega arith) refl h
twice (suc (suc zero) ∷ ns) e = of_one 0 refl
twice (suc (suc (suc n)) ∷ ns) e = absurd (omega arith)

one_counts : (ns : List ℕ) (i : ℕ) → get_or ns i 0 ≤ total ns
unfolding tally
one_counts [] i = omega arith
one_counts (n ∷ ns) zero = omega arith
one_counts (n ∷ ns) (suc i) = omega (arith, one_counts ns i)

both_count : (ns : List ℕ) (i j : ℕ) → i < j → get_or ns i 0 + get_or ns j 0 ≤ total ns
unfolding tally
both_count [] i j l = omega arith
both_count (n ∷ ns) i zero l = absurd (omega arith)
both_count (n ∷ ns) zero (suc j) l = omega (arith, one_counts ns j)
both_count (n ∷ ns) (suc i) (suc j) l = omega (arith, both_count ns i j (omega arith))

two_count : {ns : List ℕ} → TwoTurns ns → 2 ≤ total ns
two_count {ns} (of_one i h) = omega (arith, one_counts ns i)
two_count {ns} (of_two i j l h k) = omega (arith, both_count ns i j l)

-- THE LAW: a knock-knee is a vertex "where two turns occur, whether of two paths or of one"
pub knock_knee_exact : (ps : List Pair) (dss : List (List Direction)) (v : Vertex) → turns_occurring v ps dss ≤ 2
    → (knock_knee ps dss v ≡ true) ↔ TwoTurns (turns_of_each v ps dss)
unfolding knock_knee turns_occurring
knock_knee_exact ps dss v h = (
  λ t. twice (turns_of_each v ps dss) (omega (arith, h, ltb-true 1 (total (turns_of_each v ps dss)) t)),
  λ t. lt-ltb 1 (total (turns_of_each v ps dss)) (two_count t),
)

-- ── the rule before ──
some_count : (ns : List ℕ) → length (select (ltb 0) ns) ≤ total ns
unfolding select tally
some_count [] = omega arith
some_count (n ∷ ns) = elim (bool (ltb 0 n)) [
  | inl t ↦ rw t (omega (arith, some_count ns, ltb-true 0 n t))
  | inr t ↦ rw t (omega (arith, some_count ns))
]

-- THE LAW: what was a knock-knee by the rule before is one
pub was_knock_knee : (ps : List Pair) (dss : List (List Direction)) (v : Vertex) → knock_knee_of_nets ps dss v ≡ true → knock_knee ps dss v ≡ true
unfolding knock_knee knock_knee_of_nets turns_occurring
was_knock_knee ps dss v t =
    let ns = turns_of_each v ps dss in
    lt-ltb 1 (total ns) (omega (arith, some_count ns, ltb-true 1 (length (select (ltb 0) ns)) t))
