-- Definitions only: what the calls promise. Nothing is proved here.
use Rattle.std.specs.Prelude.{List, ℕ, length, Result}
use Rattle.session_rules.specs.Session.{Session}
use Rattle.call_rules.specs.Writing.{Writes}
use Rattle.call_rules.specs.Page.{draw_words, draw_bytes}
use Rattle.draw_call.specs.Answers.{draw_answer}
use Rattle.draw_call.specs.declared.DrawRefusal.{DrawRefusal}

-- the answer and the buffer afterwards are the definition's
abbrev pub DrawWordsPromise : (s : Session) (ws before : List ℕ) (r : Result ℕ DrawRefusal) (after : List ℕ) → Type 0
DrawWordsPromise s ws before r after = Writes (draw_words s ws (length before)) before (draw_answer r) after

abbrev pub DrawBytesPromise : (s : Session) (bs before : List ℕ) (r : Result ℕ DrawRefusal) (after : List ℕ) → Type 0
DrawBytesPromise s bs before r after = Writes (draw_bytes s bs (length before)) before (draw_answer r) after
