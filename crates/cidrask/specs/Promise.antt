-- Definitions only: what the calls for C promise. Nothing is proved here.
use Rattle.std.specs.Prelude.{◌≡◌, List, ℕ, length}
use Rattle.session_rules.specs.Refusal.{Refusal}
use Rattle.session.specs.View.{session_of}
use Rattle.session.specs.declared.Session as code
use Rattle.call_rules.specs.Result.{Result, no, yes}
use Rattle.call_rules.specs.Reading.{read_bytes}
use Rattle.call_rules.specs.Writing.{count_of, buffer_after}
use Rattle.call_rules.specs.Editor.{EditorRoutes, editor_wire, editor_judge, editor_alike, editor_draw}
use Rattle.cidrask_told.specs.Told.{tell, refused_told, count_told, wire_told, judge_told, alike_told}
use Rattle.cidrask_told.specs.declared.Told.{Told}

-- the board is read, and the call P made on its session; or the refusal is told
pub data OnBoard (board : List ℕ) (P : code.Session → Told → Type 0) : (t : Told) → Type 0 where
  unread : {r : Refusal} → read_bytes board ≡ no r → OnBoard board P (refused_told r)
  read : {s : code.Session} {t : Told} → read_bytes board ≡ yes (session_of s) → P s t → OnBoard board P t

-- reading with routing: what came out, told by t, and the buffer afterwards
pub record RoutedAs (board before : List ℕ) (t : Told) (after : List ℕ) : Type 0 where
  pub result : Result ℕ
  pub routes : EditorRoutes board before result after
  pub told : t ≡ count_told result

abbrev pub RoutePromise : (board before : List ℕ) (number first second : ℕ) (after : List ℕ) → Type 0
RoutePromise board before number first second after = RoutedAs board before (tell number first second 0) after

-- the wire that a board's nets take
abbrev pub WirePromise : (board : List ℕ) (number first second : ℕ) → Type 0
WirePromise board number first second = tell number first second 0 ≡ wire_told (editor_wire board)

-- judging
abbrev pub JudgePromise : (board list : List ℕ) (number first second third : ℕ) → Type 0
JudgePromise board list number first second third = tell number first second third ≡ judge_told (editor_judge board list)

-- comparing
abbrev pub AlikePromise : (board one two : List ℕ) (number first second : ℕ) → Type 0
AlikePromise board one two number first second = tell number first second 0 ≡ alike_told (editor_alike board one two)

-- drawing: the count of bytes or the refusal, told by t, and the page's buffer afterwards
pub record DrawnAs (board list before : List ℕ) (t : Told) (after : List ℕ) : Type 0 where
  pub told : t ≡ count_told (count_of (editor_draw board list (length before)))
  pub buffer : after ≡ buffer_after before (editor_draw board list (length before))

abbrev pub DrawPromise : (board list before : List ℕ) (number first : ℕ) (after : List ℕ) → Type 0
DrawPromise board list before number first after = DrawnAs board list before (tell number first 0 0) after
