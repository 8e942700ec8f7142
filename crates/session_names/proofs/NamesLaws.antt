-- The names after nets are kept under one of them, and what a name holds, as the list machine has them.
-- Assumes nothing.
use Rattle.std.specs.Prelude.{◌≡◌, refl, List, [], ◌∷◌, ℕ, zero, suc, get_or, set, None, Some}
use Rattle.std.proofs.Common.{ap}
use Rattle.std.proofs.Math.Option.{none, some}
use Rattle.std.proofs.Math.ListN.{get_or-map}
use Rattle.session_rules.specs.Session.{Kept}
use Rattle.net_places.specs.Places.{nets_of}
use Rattle.session_names.specs.Names.{Stored, kept_in, kept_of}
use Rattle.net.specs.View.{Held}

pub kept_stored : (names : List Stored) (k : ℕ) (ps : List Held) → kept_of (set names k (Some ps)) ≡ set (kept_of names) k (some (nets_of ps))
kept_stored [] k ps = refl
kept_stored (n ∷ ns) zero ps = refl
kept_stored (n ∷ ns) (suc k) ps = ap (λ (ks : List Kept). kept_in n ∷ ks) (kept_stored ns k ps)

pub kept_there : (names : List Stored) (k : ℕ) → get_or (kept_of names) k none ≡ kept_in (get_or names k None)
kept_there names k = get_or-map kept_in names k None
