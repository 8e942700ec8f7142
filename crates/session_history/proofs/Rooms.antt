-- Routing calls on one session into buffers that are all long enough are refused alike, so also given alike (document 02, §11).
-- Assumes of each call only its promise.
use Rattle.std.specs.Prelude.{◌≡◌, List, ◌↔◌, ℕ, ◌/◌, ◌≤◌, length}
use Rattle.session_rules.specs.Refusal.{Refusal}
use Rattle.session_rules.specs.Session as machine
use Rattle.session.specs.declared.Session.{Session}
use Rattle.session.specs.View.{session_of}
use Rattle.call_rules.specs.Result.{Result, no}
use Rattle.call_rules.specs.Route.{route_room}
use Rattle.call_rules.proofs.RouteLaws.{same_room, same_why}
use Rattle.route_call.specs.Answers.{RouteAnswer}
use Rattle.session_history.specs.Made.{routed, routed_bytes, Meets}
use Rattle.session_history.specs.Demand.{RefusedAlike}
use Rattle.session_history.proofs.Listed.{Refuses, refuses, refuses_bytes}

module _ (m : machine.Session) (n k : ℕ) (long : route_room m ≤ n) (long' : route_room m ≤ k) where
  alike : {a b : Result ℕ} → Refuses m n a → Refuses m k b → (q : Refusal) → (a ≡ no q) ↔ (b ≡ no q)
  alike f g q = (
    λ e. (g q).1 (same_why m n k (same_room m n k long long') ((f q).0 e)),
    λ e. (f q).1 (same_why m k n (same_room m k n long' long) ((g q).0 e)),
  )

-- two buffers of words, two of bytes, one of each
pub longer : (s : Session) (before before' : List ℕ) (x y : RouteAnswer) (after after' : List ℕ)
    → (route_room (session_of s) ≤ length before → route_room (session_of s) ≤ length before'
    → Meets s (routed before x after) → Meets s (routed before' y after') → RefusedAlike x y)
    × (route_room (session_of s) ≤ length before / 4 → route_room (session_of s) ≤ length before' / 4
    → Meets s (routed_bytes before x after) → Meets s (routed_bytes before' y after') → RefusedAlike x y)
    × (route_room (session_of s) ≤ length before → route_room (session_of s) ≤ length before' / 4
    → Meets s (routed before x after) → Meets s (routed_bytes before' y after') → RefusedAlike x y)
longer s before before' x y after after' = let m = session_of s in (
  λ h k p q. alike m (length before) (length before') h k (refuses m p) (refuses m q),
  λ h k p q. alike m (length before / 4) (length before' / 4) h k (refuses_bytes m p) (refuses_bytes m q),
  λ h k p q. alike m (length before) (length before' / 4) h k (refuses m p) (refuses_bytes m q),
)
