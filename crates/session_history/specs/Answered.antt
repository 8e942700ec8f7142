-- Definitions only: when calls that take a board and nets answer alike on two sessions. Nothing is proved here: SameBoard has the law.
use Rattle.std.specs.Prelude.{◌≡◌, List, ◌↔◌, ℕ}
use Rattle.session_rules.specs.Session.{Session}
use Rattle.call_rules.specs.Result.{Result}
use Rattle.call_rules.specs.Judge.{judge_words, judge_bytes, compare_words, compare_bytes}
use Rattle.call_rules.specs.Page.{draw_words, draw_bytes}
use Rattle.call_rules.specs.Route.{Routes, RoutesBytes}
use Rattle.call_rules.specs.Wire.{wire}

-- a routing call may give the same answers, with the same buffers; the figures are the same; a list is judged, two lists are compared, and a list is
-- drawn the same
pub record AnsweredAlike (s t : Session) : Type 0 where
  pub routed : (before : List ℕ) (x : Result ℕ) (after : List ℕ) → Routes s before x after ↔ Routes t before x after
  pub routed_bytes : (before : List ℕ) (x : Result ℕ) (after : List ℕ) → RoutesBytes s before x after ↔ RoutesBytes t before x after
  pub wired : wire s ≡ wire t
  pub judged : (ws : List ℕ) → judge_words s ws ≡ judge_words t ws
  pub judged_bytes : (bs : List ℕ) → judge_bytes s bs ≡ judge_bytes t bs
  pub compared : (vs ws : List ℕ) → compare_words s vs ws ≡ compare_words t vs ws
  pub compared_bytes : (one two : List ℕ) → compare_bytes s one two ≡ compare_bytes t one two
  pub drawn : (ws : List ℕ) (room : ℕ) → draw_words s ws room ≡ draw_words t ws room
  pub drawn_bytes : (bs : List ℕ) (room : ℕ) → draw_bytes s bs room ≡ draw_bytes t bs room
