-- What reading answers, as the text of the board.
-- Assumes what reading and routing promise.
use Rattle.std.specs.Prelude.{◌≡◌, List, [], ◌∷◌, ℕ, ◌%◌, ◌≤◌, length, Ok, Err}
use Rattle.std.proofs.Common.{sym, ◌∙◌, arith}
use Rattle.text.specs.Line.{refused_line}
use Rattle.words_bytes.specs.WordsLaws.{words_length, uneven_bytes, even_bytes}
use Rattle.session_rules.specs.Refusal.{refusal}
use Rattle.session.specs.View.{session_of}
use Rattle.call_rules.specs.Reading.{read_bytes}
use Rattle.board_reading.specs.Promise.{AfterRead, ReadPromise}
use Rattle.board_reading.proofs.ReadAs.{read_refused, read_accepted}
use Rattle.board_reading.proofs.PromiseLaws.{bytes-uneven, bytes-long}
use Rattle.board_reading.specs.Refused.{read_number, read_place, read_refusal}
use Rattle.board_reading.specs.declared.ReadRefusal.{ReadRefusal}
use Rattle.route_text.specs.Text.{RouteText}
use Rattle.route.specs.Text.{BoardText, unread, read}

pub refused_text : {board : List ℕ} {r : AfterRead} (e : ReadRefusal) → ReadPromise (read_bytes board) r → r.answer ≡ Err e
    → BoardText board (refused_line (read_number e) (read_place e ∷ []))
refused_text e P h = unread {r = read_refusal e} (read_refused P e h)

pub read_text : {board text : List ℕ} {r : AfterRead} → ReadPromise (read_bytes board) r → r.answer ≡ Ok tt
    → RouteText (session_of r.session) text → BoardText board text
read_text P e T = read (read_accepted P e) T

-- ── a list longer than a buffer of 65,536 bytes ──
pub uneven_text : (n : ℕ) → (n % 4 ≡ 0 → ⊥) → (board : List ℕ) → length board % 4 ≡ n % 4 → BoardText board (refused_line 10 (0 ∷ []))
uneven_text n h board e = unread {r = refusal 10 0} (bytes-uneven board (uneven_bytes board (λ z. h (sym e ∙ z))))

pub long-text : (n : ℕ) → n % 4 ≡ 0 → (board : List ℕ) → 65536 ≤ length board → length board % 4 ≡ n % 4
    → BoardText board (refused_line 11 (0 ∷ []))
long-text n h board l e = unread {r = refusal 11 0} (bytes-long board (even_bytes board (e ∙ h)) (omega (arith, words_length board)))
