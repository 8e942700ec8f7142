-- Back to a trial layout (document 02, §5): the nets that were on the board at a keep are on it again after a return to that name, whatever calls
-- came between but another keep under it and moves to the new rule (§10) (`comes_back`); the return was accepted (`accepted-last`).
-- Assumes of each call only its promise.
use Rattle.std.specs.Prelude.{◌≡◌, ℕ, ◌≤◌}
use Rattle.std.proofs.Math.Path.{ap}
use Rattle.std.proofs.Common.{◌∙◌}
use mathlib.Core.List.{List, [], ◌∷◌, ◌++◌}
use Rattle.session_rules.specs.Session as machine
use Rattle.session_rules.specs.Session.{last_name, with_nets}
use Rattle.session_rules.specs.Machine.{Call, keep, return_to, accepted, accept, Step, step, after, answers}
use Rattle.session_rules.specs.Sound.{Sound}
use Rattle.session_rules.specs.Names.{Untouched}
use Rattle.session_laws.proofs.Names as laws
use Rattle.session.specs.declared.Session.{Session}
use Rattle.session.specs.View.{session_of}
use Rattle.session_history.specs.Made.{Made, Chain, last, calls_of, answers_of}
use Rattle.session_history.proofs.History.{after_append, answers_append, from_sound}

module _ (s : Session) (k : ℕ) (between : List Call) (ms : List Made) (h : Sound (session_of s)) (l : k ≤ last_name) (n : Untouched k between)
    (e : calls_of ms ≡ (keep k ∷ between) ++ (return_to k ∷ [])) (each : Chain s ms) where
  -- DEFINITION: the session before the return
  abbrev before : machine.Session
  before = after (session_of s) (keep k ∷ between)

  return-accepted : step before (return_to k) ≡ accept (with_nets before (session_of s).nets [])
  return-accepted = laws.comes_back (session_of s) k between h l n

  pub comes_back : session_of (last s ms) ≡ with_nets before (session_of s).nets []
  unfolding after
  comes_back =
      (from_sound s ms h each).session
      ∙ ap (λ (cs : List Call). after (session_of s) cs) e
      ∙ after_append (session_of s) (keep k ∷ between) (return_to k ∷ [])
      ∙ ap (λ (x : Step). x.next) return-accepted

  pub accepted-last : answers_of ms ≡ answers (session_of s) (keep k ∷ between) ++ (accepted ∷ [])
  unfolding answers
  accepted-last =
      (from_sound s ms h each).answer
      ∙ ap (λ (cs : List Call). answers (session_of s) cs) e
      ∙ answers_append (session_of s) (keep k ∷ between) (return_to k ∷ [])
      ∙ ap (λ (x : Step). answers (session_of s) (keep k ∷ between) ++ (x.answer ∷ [])) return-accepted
