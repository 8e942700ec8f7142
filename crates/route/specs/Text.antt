-- Definitions only: what the program prints of a board's bytes (document 01: "Program route reads board words from standard input and prints
-- each routing word on a line, or "refused", the number and the place numbers"). Nothing is proved here.
use Rattle.std.specs.Prelude.{◌≡◌, List, ℕ}
use Rattle.session_rules.specs.Refusal.{Refusal}
use Rattle.session_rules.specs.Session.{Session}
use Rattle.call_rules.specs.Result.{no, yes}
use Rattle.call_rules.specs.Reading.{read_bytes}
use Rattle.route_text.specs.Text.{refusal_text, RouteText}

-- the refusal of a board that cannot be read, or the text for the session that is read
pub data BoardText (board : List ℕ) : (text : List ℕ) → Type 0 where
  unread : {r : Refusal} → read_bytes board ≡ no r → BoardText board (refusal_text r)
  read : {s : Session} {text : List ℕ} → read_bytes board ≡ yes s → RouteText s text → BoardText board text
