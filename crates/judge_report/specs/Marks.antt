-- What a mark says of a vertex: none, one or more turns occurred there.
-- Assumes nothing.
use Rattle.std.specs.Prelude.{◌≡◌, refl, ℕ, zero, suc, ◌+◌, ◌*◌, ltb, replicate}
use Rattle.std.proofs.Common.{arith, lt-ltb}
use Rattle.std.proofs.lemmas.List.{length-replicate, get_or-replicate}
use Rattle.judge_report.specs.Traces.{marked}
use Rattle.judge_report.specs.Measures.{mark_of, Says}

-- one more turn
pub mark_more : (n : ℕ) → marked (mark_of n) ≡ mark_of (suc n)
mark_more zero = refl
mark_more (suc zero) = refl
mark_more (suc (suc n)) = refl

-- whether two turns or more occurred
pub mark_knock : (n : ℕ) → ltb 1 (mark_of n) ≡ ltb 1 n
mark_knock zero = refl
mark_knock (suc zero) = refl
mark_knock (suc (suc n)) = rw (lt-ltb 1 (suc (suc n)) (omega arith)) refl

pub says_none : Says (λ v. 0) (replicate 1024 0)
says_none = record {
  long = length-replicate {A = ℕ} 1024 0;
  marks = λ l c p q. get_or-replicate {A = ℕ} 1024 (l * 32 + c) 0 0 (omega arith);
}
