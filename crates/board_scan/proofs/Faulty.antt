-- What is known of a result in cases, where it is no value.
-- Assumes nothing.
use Rattle.std.specs.Prelude.{◌≡◌, refl, false, Result, Ok, Err, MatchResult}
use Rattle.std.specs.Result.{is_ok}
use Rattle.std.proofs.Common.{sym}
use Rattle.count.specs.TruthLaws.{clash}

pub faulty : {A E : Type 0} (P : A → Type 0) (Q : E → Type 0) (r : Result A E) → MatchResult r P Q → false ≡ is_ok r → (e : E) × (r ≡ Err e) × Q e
faulty P Q (Ok x) m none = absurd (clash refl (sym none))
faulty P Q (Err e) m none = (e, refl, m)
