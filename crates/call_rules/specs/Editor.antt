-- Definitions only: the layout editor's calls, on bytes (document 01, "Board words", last paragraph; document 02, §3, §7 and §11). Nothing is
-- proved here.
use Rattle.std.specs.Prelude.{◌≡◌, Bool, List, ℕ}
use Rattle.session_rules.specs.Refusal.{Refusal}
use Rattle.session_rules.specs.Session.{Session}
use Rattle.call_rules.specs.Result.{Result, no, yes, and_then}
use Rattle.call_rules.specs.Reading.{read_bytes}
use Rattle.call_rules.specs.Report.{Report}
use Rattle.call_rules.specs.Judge.{judge_bytes, compare_bytes}
use Rattle.call_rules.specs.Page.{draw_bytes}
use Rattle.call_rules.specs.Route.{RoutesBytes}
use Rattle.call_rules.specs.Wire.{Figures, wire}

-- the wire that a board's nets take
unfoldable pub editor_wire : (board : List ℕ) → Result Figures
editor_wire board = and_then (read_bytes board) wire

-- judging: "The board's bytes are read first, then a list's bytes get 10."
unfoldable pub editor_judge : (board list : List ℕ) → Result Report
editor_judge board list = and_then (read_bytes board) (λ s. judge_bytes s list)

-- comparing: the board's bytes first, then the one list whole, then the other
unfoldable pub editor_alike : (board one two : List ℕ) → Result Bool
editor_alike board one two = and_then (read_bytes board) (λ s. compare_bytes s one two)

-- drawing: the board's bytes first, then the list, for a buffer of so many bytes
unfoldable pub editor_draw : (board list : List ℕ) (room : ℕ) → Result (List ℕ)
editor_draw board list room = and_then (read_bytes board) (λ s. draw_bytes s list room)

-- reading with routing: a refused reading leaves the buffer as it was; else the session is routed into the buffer
pub data EditorRoutes (board before : List ℕ) : Result ℕ → (after : List ℕ) → Type 0 where
  unread : {r : Refusal} → read_bytes board ≡ no r → EditorRoutes board before (no r) before
  read : {s : Session} {answer : Result ℕ} {after : List ℕ} → read_bytes board ≡ yes s → RoutesBytes s before answer after
      → EditorRoutes board before answer after
