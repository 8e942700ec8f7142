-- Runs of which two in a row differ in direction: they are the runs of their directions.
-- Assumes nothing.
use Rattle.std.specs.Prelude.{◌≡◌, refl, false, List, [], ◌∷◌, ◌++◌, map, ℕ, zero, suc, ◌+◌, ◌-◌, ◌<◌, replicate}
use Rattle.std.proofs.Common.{ap, sym, ◌∙◌, arith, eq-eqb}
use Rattle.std.proofs.Math.Option.{Option, some}
use Rattle.board.specs.Path.{number}
use Rattle.board.specs.declared.Direction.{Direction}
use Rattle.words.specs.Bits.{bits}
use Rattle.words.specs.RoutingWord.{run_word, run_in, step_then, runs_of}
use Rattle.words.specs.Inverse.{direction_back, number_small}
use Rattle.words.specs.declared.Run.{Run}
use Rattle.call_rules.specs.Shape.{repeated, runs_from}
use Rattle.call_rules.specs.Report.{directions}

abbrev pub run : Direction → ℕ → Run
run d n = record { direction = d; length = n }

-- DEFINITION: the directions of runs
unfoldable pub steps : List Run → List Direction
steps [] = []
steps (r ∷ rs) = replicate r.length r.direction ++ steps rs

-- DEFINITION: runs of 1 to 31 edges, two in a row in different directions, the first not in the direction of the one before
pub data Runs : Option Direction → List Run → Type 0 where
  no_more : {l : Option Direction} → Runs l []
  one_more : {l : Option Direction} {rs : List Run} (r : Run) → 0 < r.length → r.length < 32 → repeated l r.direction ≡ false
      → Runs (some r.direction) rs → Runs l (r ∷ rs)

-- ── the runs of their directions ──
step_first : (d : Direction) {rs : List Run} → Runs (some d) rs → step_then d rs ≡ run d 1 ∷ rs
step_first d no_more = refl
step_first d (one_more r p q e h) = rw e refl

step_again : (d : Direction) (n : ℕ) (rs : List Run) → step_then d (run d n ∷ rs) ≡ run d (n + 1) ∷ rs
step_again d n rs = rw (eq-eqb (number d) (number d) refl) refl

straight : (d : Direction) (m : ℕ) (ds : List Direction) {rs : List Run} → runs_of ds ≡ rs → Runs (some d) rs
    → runs_of (replicate (suc m) d ++ ds) ≡ run d (suc m) ∷ rs
unfolding runs_of
straight d zero ds e h = rw e (step_first d h)
straight d (suc m) ds {rs} e h =
    let k : suc m + 1 ≡ suc (suc m) = omega arith in
    rw (straight d m ds e h) (step_again d (suc m) rs ∙ ap (λ (n : ℕ). run d n ∷ rs) k)

pub runs_back : {l : Option Direction} {rs : List Run} → Runs l rs → runs_of (steps rs) ≡ rs
unfolding steps runs_of
runs_back no_more = refl
runs_back (one_more {rs = rs} r p q e h) =
    let m = r.length - 1 in
    let k : r.length ≡ suc m = omega arith in
    let j : suc m ≡ r.length = sym k in
    ap (λ (n : ℕ). runs_of (replicate n r.direction ++ steps rs)) k
    ∙ (straight r.direction m (steps rs) (runs_back h) h ∙ ap (λ (n : ℕ). record { direction = r.direction; length = n } ∷ rs) j)

-- ── the runs in their words ──
run_in_word : (r : Run) → r.length < 32 → run_in (run_word r) ≡ r
run_in_word r h =
    let n = number_small r.direction in
    let p : bits 26 2 (run_word r) ≡ number r.direction = omega arith in
    let q : bits 0 5 (run_word r) ≡ r.length = omega arith in
    rw (p, q, direction_back r.direction) refl

pub runs_in_words : {l : Option Direction} {rs : List Run} (i : ℕ) → Runs l rs → directions (runs_from i (map run_word rs)) ≡ steps rs
unfolding directions runs_from steps
runs_in_words i no_more = refl
runs_in_words i (one_more {rs = rs} r p q e h) =
    ap (λ (x : Run). replicate x.length x.direction ++ directions (runs_from (suc i) (map run_word rs))) (run_in_word r q)
    ∙ ap (λ (ds : List Direction). replicate r.length r.direction ++ ds) (runs_in_words (suc i) h)
