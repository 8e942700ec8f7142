-- Document 02, §8: "Taken pins don't make a vertex odd or even. .. They limit which nets can stand on a board, and routing such nets is judged as
-- always." What is answered on a sound session is what is answered on the same board with no pin taken (`untaken_answered`); so two routing calls
-- are given or refused alike (`untaken_alike`).
-- Assumes that the session is sound, and of each call only its promise.
use Rattle.std.specs.Prelude.{◌≡◌, refl, List, ℕ}
use Rattle.session_rules.specs.Session as machine
use Rattle.session_rules.specs.Session.{untaken}
use Rattle.session_rules.specs.Sound.{Sound}
use Rattle.session_laws.proofs.Untaken.{sound_untaken}
use Rattle.session.specs.declared.Session.{Session}
use Rattle.session.specs.View.{session_of}
use Rattle.route_call.specs.Answers.{RouteAnswer}
use Rattle.session_history.specs.Answered.{AnsweredAlike}
use Rattle.session_history.specs.Made.{routed, routed_bytes, Meets}
use Rattle.session_history.specs.Demand.{RefusedAlike}
use Rattle.session_history.proofs.Listed.{refuses, refuses_bytes, alike}
use Rattle.session_history.specs.SameBoard.{same_board}

pub untaken_answered : (s : machine.Session) → Sound s → AnsweredAlike s (untaken s)
untaken_answered s S = same_board s (untaken s) S (sound_untaken s S) refl refl

-- two calls with the same buffer, one on the session with taken pins and one on that without
pub untaken_alike : (s t : Session) → Sound (session_of s) → session_of t ≡ untaken (session_of s)
    → (before : List ℕ) (x y : RouteAnswer) (after after' : List ℕ)
    → (Meets s (routed before x after) → Meets t (routed before y after') → RefusedAlike x y)
    × (Meets s (routed_bytes before x after) → Meets t (routed_bytes before y after') → RefusedAlike x y)
untaken_alike s t S e before x y after after' =
    let m = session_of s in let same = untaken_answered m S in (
      λ p q. alike (refuses m p) (refuses m ((same.routed before _ after').1 (rw e at q))),
      λ p q. alike (refuses_bytes m p) (refuses_bytes m ((same.routed_bytes before _ after').1 (rw e at q))),
    )
