-- The line of what reading hands back is the line of its result.
-- Assumes what reading and writing promise.
use Rattle.std.specs.Prelude as prelude
use Rattle.board_reading.proofs.ReadAs.{read_refused}
use Rattle.std.specs.Prelude.{◌≡◌, refl, List, [], ◌∷◌, ℕ, length, Ok, Err}
use Rattle.std.proofs.Common.{ap, sym, ◌∙◌, arith}
use Rattle.std.proofs.Math.Option.{none, some}
use Rattle.text.specs.Line.{refused_line}
use Rattle.session_rules.specs.Session.{Session}
use Rattle.session.specs.View.{session_of}
use Rattle.call_rules.specs.Result.{Result, no, yes}
use Rattle.call_rules.specs.Reading.{board_limit}
use Rattle.call_rules.specs.Writing.{write_board, count_of}
use Rattle.board_reading.specs.Promise.{AfterRead, read_answer, ReadPromise}
use Rattle.board_reading.specs.Refused.{read_number, read_place}
use Rattle.board_reading.specs.declared.ReadRefusal.{ReadRefusal}
use Rattle.board_writing.specs.Promise.{write_answer, WritePromise}
use Rattle.board_writing.specs.declared.WriteRefusal.{WriteRefusal}
use Rattle.run_board_words.specs.Text.{written_line, read_name, read_line}

pub refused-line : {r : AfterRead} (e : ReadRefusal) → r.answer ≡ Err e → (x : Result Session) → ReadPromise x r
    → refused_line (read_number e) (read_place e ∷ []) ≡ read_line x
refused-line e h x P = rw (read_refused P e h) refl

pub written_back : (a : prelude.Result ℕ WriteRefusal) {r : AfterRead} {before after : List ℕ} → r.answer ≡ Ok tt → length before ≡ board_limit
    → WritePromise (session_of r.session) before a after → (x : Result Session) → ReadPromise x r
    → written_line read_name (write_answer a) ≡ read_line x
written_back a e l W (no q) P =
    let f : none ≡ some q = sym (ap read_answer e) ∙ P.answers in absurd (let z : ◌≡◌ {A = ℕ} 0 1 = cc in omega arith)
written_back a {r} {before} e l W (yes s) P =
    let f : session_of r.session ≡ s = P.session in
    let g : write_answer a ≡ count_of (write_board s board_limit) = rw (f, l) at W.answers in
    ap (written_line read_name) g
