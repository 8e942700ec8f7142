-- The shape of the whole list: 41, then its words.
-- Assumes nothing.
use Rattle.std.specs.Prelude.{◌≡◌, true, false, List, ℕ, ◌≤◌, eqb, ltb, length}
use Rattle.std.proofs.Math.Path.{refl}
use Rattle.std.proofs.Common.{inl, inr, arith, ltb-false}
use Rattle.std.proofs.Math.Option.{none, some}
use Rattle.count.specs.TruthLaws.{bool, clash, or_right}
use Rattle.net.specs.declared.Net.{Net}
use Rattle.session_rules.specs.Refusal.{refusal}
use Rattle.call_rules.specs.Shape.{between, bad_count, words_refused}
use Rattle.judge_shape.specs.States.{shape_refused}

module _ (ns : List Net) (ws : List ℕ) where
  pub shape-bad : bad_count ws ≡ true → some (refusal 41 0) ≡ shape_refused ns ws
  unfolding shape_refused
  shape-bad e = rw e refl

  pub shape-good : bad_count ws ≡ false → shape_refused ns ws ≡ words_refused (length ns) 0 between ns ws
  unfolding shape_refused
  shape-good e = rw e refl

pub count_fits : (ws : List ℕ) → bad_count ws ≡ false → length ws ≤ 2049
count_fits ws e = elim (bool (ltb 2049 (length ws))) [
  | inl t ↦ absurd (clash (or_right (eqb (length ws) 0) (ltb 2049 (length ws)) t) e)
  | inr t ↦ ltb-false 2049 (length ws) t
]

pub shape_fits : (ns : List Net) (ws : List ℕ) → shape_refused ns ws ≡ none → length ws ≤ 2049
shape_fits ns ws e = elim (bool (bad_count ws)) [
  | inl t ↦ absurd (let f = shape-bad ns ws t in let z : ◌≡◌ {A = ℕ} 0 1 = cc in omega arith)
  | inr t ↦ count_fits ws t
]
