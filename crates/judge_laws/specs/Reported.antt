-- The report on a list that passes is that of the routing whose words it is; and what the law assumes of the nets holds of 64 places.
-- Assumes that the board is within the limits.
use Rattle.std.specs.Prelude.{◌≡◌, refl, List, [], ◌∷◌, ◌↔◌, ℕ, suc, ◌+◌, ◌<◌, ◌≤◌, length, None, Some}
use Rattle.std.proofs.Common.{ap, sym, ◌∙◌, arith}
use Rattle.board.specs.Board.{Within}
use Rattle.board.specs.declared.Direction.{Direction}
use Rattle.net.specs.declared.Net.{Net}
use Rattle.session_rules.specs.Session.{Session, pairs}
use Rattle.net_places.specs.Places.{held_net, nets_from, nets_of}
use Rattle.call_rules.specs.Result.{Result, no, yes, and_then}
use Rattle.call_rules.specs.Report.{Report, report_of}
use Rattle.call_rules.specs.Judge.{judged}
use Rattle.judge_laws.specs.Walks.{yes_eq, no_yes}
use Rattle.judge_laws.specs.Passing.{Numbered}
use Rattle.judge_laws.specs.Exact.{Passing, passes_sound, passes_complete}
use Rattle.net.specs.View.{Held}

-- ── the report ──
-- DEFINITION: a routing of the nets of which these are the words and this is the report
pub record Reported (s : Session) (ws : List ℕ) (r : Report) : Type 0 where
  pub paths : List (List Direction)
  pub passing : Passing s ws paths
  pub report : r ≡ report_of (pairs s.nets) paths

pub reports_exactly : (s : Session) → Within s.block.board → Numbered s.nets → length s.nets ≤ 64 → (ws : List ℕ) (r : Report)
    → (and_then (judged s ws) (λ dss. yes (report_of (pairs s.nets) dss)) ≡ yes r) ↔ Reported s ws r
reports_exactly s w m l ws r = (
  λ h. go (judged s ws) refl h,
  λ p. ap (λ (x : Result (List (List Direction))). and_then x (λ dss. yes (report_of (pairs s.nets) dss)))
      (ap (judged s) p.passing.words ∙ passes_complete s w m l p.paths p.passing.routing)
      ∙ ap yes (sym p.report),
)
  where
    go : (x : Result (List (List Direction))) → judged s ws ≡ x → and_then x (λ dss. yes (report_of (pairs s.nets) dss)) ≡ yes r → Reported s ws r
    go (no y) e f = no_yes f
    go (yes dss) e f = record { paths = dss; passing = passes_sound s ws dss e; report = sym (yes_eq f) }

-- ── the nets of 64 places ──
held_numbered : (k : ℕ) (h : Held) (ns : List Net) → k < 256 → Numbered ns → Numbered (held_net k h ns)
held_numbered k None ns p m = m
held_numbered k (Some e) ns p m = (p, m)

held_length : (k : ℕ) (h : Held) (ns : List Net) → length (held_net k h ns) ≤ suc (length ns)
held_length k None ns = omega arith
held_length k (Some e) ns = omega arith

nets_numbered : (k : ℕ) (ps : List Held) → k + length ps ≤ 256 → Numbered (nets_from k ps)
unfolding nets_from
nets_numbered k [] h = tt
nets_numbered k (p ∷ ps) h = held_numbered k p (nets_from (suc k) ps) (omega arith) (nets_numbered (suc k) ps (omega arith))

nets_length : (k : ℕ) (ps : List Held) → length (nets_from k ps) ≤ length ps
unfolding nets_from
nets_length k [] = omega arith
nets_length k (p ∷ ps) = omega (arith, held_length k p (nets_from (suc k) ps), nets_length (suc k) ps)

pub places_fit : (ps : List Held) → length ps ≡ 64 → Numbered (nets_of ps) × (length (nets_of ps) ≤ 64)
unfolding nets_of
places_fit ps h = (nets_numbered 1 ps (omega arith), omega (arith, nets_length 1 ps))
