-- The calls in their parts: the board is read, then the call is made on the session.
-- Assumes what reading, routing, telling the wire, judging, comparing and drawing promise.
use Rattle.std.specs.Prelude.{◌≡◌, refl, Bool, List, ℕ, length, Ok, Err}
use Rattle.std.proofs.Common.{ap, sym, ◌∙◌}
use Rattle.session.specs.View.{session_of}
use Rattle.call_rules.specs.Result.{Result, no, yes}
use Rattle.call_rules.specs.Reading.{read_bytes}
use Rattle.call_rules.specs.Route.{RoutesBytes}
use Rattle.call_rules.specs.Judge.{judge_bytes, compare_bytes}
use Rattle.call_rules.specs.Writing.{count_of}
use Rattle.call_rules.specs.Page.{draw_bytes}
use Rattle.call_rules.specs.Wire.{Figures, wire}
use Rattle.call_rules.specs.Editor.{unread, read, editor_wire, editor_judge, editor_alike, editor_draw}
use Rattle.board_reading.specs.Promise.{AfterRead, ReadPromise}
use Rattle.board_reading.proofs.ReadAs.{read_refused, read_accepted}
use Rattle.board_reading.specs.Refused.{read_refusal}
use Rattle.board_reading.specs.declared.ReadRefusal.{ReadRefusal}
use Rattle.session.specs.declared.Session as code
use Rattle.draw_call.specs.Answers.{draw_answer}
use Rattle.draw_call.specs.Promise.{DrawBytesPromise}
use Rattle.std.specs.Prelude as rust
use Rattle.std.specs.Prelude.{Ok, Err}
use Rattle.draw_call.specs.declared.DrawRefusal.{DrawRefusal}
use Rattle.draw_call.specs.declared.DrawRefusal.TheVariants as drawing
use Rattle.cidrask_told.specs.Told.{tell, refused_told, count_told, wire_told, judge_told, alike_told}
use Rattle.cidrask_told.specs.declared.Told.{Told}
use Rattle.cidrask.specs.Promise.{OnBoard as board_is}
use Rattle.cidrask.specs.Promise.{OnBoard, RoutedAs, DrawnAs, DrawPromise}

pub routed_unread : {board before : List ℕ} {r : AfterRead} (e : ReadRefusal) → ReadPromise (read_bytes board) r → r.answer ≡ Err e
    → RoutedAs board before (refused_told (read_refusal e)) before
routed_unread e P h = record { result = no (read_refusal e); routes = unread (read_refused P e h); told = refl }

pub routed_read : {board before after : List ℕ} {r : AfterRead} {a : Result ℕ} {t : Told} → ReadPromise (read_bytes board) r
    → r.answer ≡ Ok tt
    → RoutesBytes (session_of r.session) before a after → t ≡ count_told a → RoutedAs board before t after
routed_read {a = a} P e R f = record { result = a; routes = read (read_accepted P e) R; told = f }

-- a count, the wire and comparing leave the third number 0
pub count_third : (a : Result ℕ) → (count_told a).third ≡ 0
count_third (yes n) = refl
count_third (no r) = refl

pub wire_third : (x : Result Figures) → (wire_told x).third ≡ 0
wire_third (yes f) = refl
wire_third (no r) = refl

pub alike_third : (x : Result Bool) → (alike_told x).third ≡ 0
alike_third (yes t) = refl
alike_third (no r) = refl

pub two-numbers : (t u : Told) → t ≡ u → u.third ≡ 0 → tell t.number t.first t.second 0 ≡ u
two-numbers t u e z =
    ap (λ (x : Told). tell x.number x.first x.second 0) e ∙ ap (λ (n : ℕ). tell u.number u.first u.second n) (sym z)

-- ── the call on the board that is read ──
module _ {P : code.Session → Told → Type 0} where
  pub wired_as : (board : List ℕ) {t : Told} → OnBoard board P t → ((s : code.Session) (u : Told) → P s u → u ≡ wire_told (wire (session_of s)))
      → t ≡ wire_told (editor_wire board)
  unfolding editor_wire
  wired_as board (board_is.unread e) f = rw e refl
  wired_as board (board_is.read {s} {t} e p) f = rw e (f s t p)

  pub judged_as : (board list : List ℕ) {t : Told} → OnBoard board P t
      → ((s : code.Session) (u : Told) → P s u → u ≡ judge_told (judge_bytes (session_of s) list)) → t ≡ judge_told (editor_judge board list)
  unfolding editor_judge
  judged_as board list (board_is.unread e) f = rw e refl
  judged_as board list (board_is.read {s} {t} e p) f = rw e (f s t p)

  pub compared_as : (board one two : List ℕ) {t : Told} → OnBoard board P t
      → ((s : code.Session) (u : Told) → P s u → u ≡ alike_told (compare_bytes (session_of s) one two)) → t ≡ alike_told (editor_alike board one two)
  unfolding editor_alike
  compared_as board one two (board_is.unread e) f = rw e refl
  compared_as board one two (board_is.read {s} {t} e p) f = rw e (f s t p)

pub drawn_unread : (board list before : List ℕ) {r : AfterRead} (e : ReadRefusal) → ReadPromise (read_bytes board) r → r.answer ≡ Err e
    → DrawnAs board list before (refused_told (read_refusal e)) before
unfolding editor_draw
drawn_unread board list before e P h =
    let x : editor_draw board list (length before) ≡ no (read_refusal e) = rw (read_refused P e h) refl in
    record { told = rw x refl; buffer = rw x refl }

pub drawn_read : (board list before : List ℕ) (a : rust.Result ℕ DrawRefusal) {after : List ℕ} {r : AfterRead} {t : Told} → ReadPromise (read_bytes board) r
    → r.answer ≡ Ok tt → DrawBytesPromise (session_of r.session) list before a after → t ≡ count_told (draw_answer a)
    → DrawnAs board list before t after
unfolding editor_draw
drawn_read board list before a {r = r} P e W f =
    let x : editor_draw board list (length before) ≡ draw_bytes (session_of r.session) list (length before) = rw (read_accepted P e) refl in
    record { told = rw x (f ∙ ap count_told W.answers); buffer = rw x W.buffer }

-- an answer of drawing has a place of one number
pub draw_second : (a : rust.Result ℕ DrawRefusal) → (count_told (draw_answer a)).second ≡ 0
draw_second (Ok n) = refl
draw_second (Err drawing.Unsound) = refl
draw_second (Err drawing.NoRoom) = refl
draw_second (Err drawing.UnevenBytes) = refl
draw_second (Err (drawing.List r)) = refl

pub drawn_told : {board list before after : List ℕ} {t : Told} → DrawnAs board list before t after → t.second ≡ 0
    → DrawPromise board list before t.number t.first after
drawn_told {board} {list} {before} {t = t} D z =
    let x = count_of (editor_draw board list (length before)) in
    record {
      told = ap (λ (n : ℕ). tell t.number t.first n 0) (sym z) ∙ two-numbers t (count_told x) D.told (count_third x);
      buffer = D.buffer;
    }
