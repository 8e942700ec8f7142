-- What the call answers is what the definition gives.
-- Assumes what the counts promise.
use Rattle.std.specs.Prelude.{◌≡◌, refl, true, false, List, ℕ}
use Rattle.board_edges.specs.EdgeCount.{edge_count}
use Rattle.net.specs.declared.Pair.{Pair}
use Rattle.session_rules.specs.Session.{Session, pairs}
use Rattle.session_rules.specs.Sound.{sound?}
use Rattle.session_rules.specs.Refusal.{refusal}
use Rattle.call_rules.specs.Result.{no, yes}
use Rattle.call_rules.specs.Wire.{crossing_sum, wire}

-- the figures, where the pairs are those that the places hold
pub wire-told : (s : Session) → sound? s ≡ true → (ps : List Pair) → pairs s.nets ≡ ps → (n e : ℕ) → n ≡ crossing_sum s.block.board ps
    → e ≡ edge_count s.block.board → yes (record { crossings = n; edges = e }) ≡ wire s
unfolding wire
wire-told s t ps p n e f g = rw (t, f, g, p) refl

pub wire_unsound : (s : Session) → sound? s ≡ false → no (refusal 20 0) ≡ wire s
unfolding wire
wire_unsound s t = rw t refl
