-- What the call `wire` shows by its promise, to a caller and to C.
-- Assumes nothing but the promise.
use Rattle.std.specs.Prelude.{◌≡◌, refl, List, ℕ}
use Rattle.std.proofs.Common.{ap, ◌∙◌}
use Rattle.session_rules.specs.Refusal.{Refusal}
use Rattle.session_rules.specs.Session as machine
use Rattle.session_rules.specs.Sound.{Sound}
use Rattle.call_rules.specs.Result.{no, yes}
use Rattle.call_rules.specs.Reading.{read_bytes}
use Rattle.call_rules.specs.Judge.{if_sound}
use Rattle.call_rules.specs.Wire.{figures_of, wire}
use Rattle.call_rules.specs.Editor.{editor_wire}
use Rattle.cidrask_told.specs.Told.{tell, refused_told, wire_told}
use Rattle.cidrask_told.specs.declared.Told.{Told}
use Rattle.board_roundtrip.specs.RoundTrip.{read_bytes_sound}
use Rattle.demands.proofs.Judging.{sound_then}

pub wire_is : (s : machine.Session) → wire s ≡ if_sound s (yes (figures_of s))
unfolding wire
wire_is s = refl

-- C: a session that was read is sound, so that 20 is never told
pub c_wired : (board : List ℕ) (t : Told) → t ≡ wire_told (editor_wire board)
    → ((q : Refusal) → read_bytes board ≡ no q → t ≡ refused_told q)
    × ((s : machine.Session) → read_bytes board ≡ yes s → Sound s × (t ≡ tell 0 (figures_of s).crossings (figures_of s).edges 0))
unfolding editor_wire
c_wired board t P = (
  λ q e. let f : editor_wire board ≡ no q = rw e refl in P ∙ ap wire_told f,
  λ s e.
      let f : editor_wire board ≡ wire s = rw e refl in let S = read_bytes_sound board s e in
      (S, P ∙ ap wire_told (f ∙ (wire_is s ∙ sound_then s (yes (figures_of s)) S))),
)
