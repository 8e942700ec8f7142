-- A result whose error is changed on the way: what it was before, from what it is after.
-- Assumes nothing.
use Rattle.std.specs.Prelude.{◌≡◌, Result, Ok, Err}
use Rattle.std.specs.Result.{MatchResult, IsErrAnd}
use Rattle.std.proofs.Common.{refl}

pub map_err_ok : {T E D : Type 0} (Q : E → D → Type 0) (r : Result T E) {a : Result T D} {s : T} → MatchResult r (λ x. a ≡ Ok x) (λ e. IsErrAnd a (Q e)) → a ≡ Ok s
    → r ≡ Ok s
map_err_ok Q (Ok x) h f = cc
map_err_ok Q (Err e) h f = absurd (rw f at h)

pub map_err_err : {T E D : Type 0} (Q : E → D → Type 0) (r : Result T E) {a : Result T D} {d : D} → MatchResult r (λ x. a ≡ Ok x) (λ e. IsErrAnd a (Q e)) → a ≡ Err d
    → (e : E) × (r ≡ Err e) × Q e d
map_err_err Q (Ok x) h f = absurd (cc)
map_err_err Q (Err e) h f = (e, refl, rw f at h)
