-- The end of the board found word by word, and what drawing and reading answer as the text that is printed.
-- Assumes what reading and drawing promise.
use Rattle.std.specs.Prelude.{Ok, Err, ◌≡◌, refl, List, [], ◌∷◌, ◌++◌, ℕ, ◌+◌, ◌-◌, ◌/◌, ◌<◌, length, take, drop, get_or}
use Rattle.std.proofs.Common.{ap, sym, ◌∙◌, arith, length-append, length-drop, take_all, take_at, eq-eqb, ne_eqb}
use Rattle.text.specs.Line.{refused_line}
use Rattle.text.specs.Put.{Holds}
use Rattle.session_rules.specs.Refusal.{refusal}
use Rattle.session.specs.View.{session_of}
use Rattle.call_rules.specs.Result.{Result, no, yes}
use Rattle.call_rules.specs.Reading.{read_bytes}
use Rattle.call_rules.specs.Writing.{Writes}
use Rattle.call_rules.specs.Page.{page_room, draw_bytes}
use Rattle.call_rules.specs.Editor.{editor_draw}
use Rattle.board_reading.specs.Promise.{AfterRead, ReadPromise}
use Rattle.board_reading.proofs.ReadAs.{read_refused, read_accepted}
use Rattle.board_reading.specs.Refused.{read_number, read_place}
use Rattle.board_reading.specs.declared.ReadRefusal.{ReadRefusal}
use Rattle.draw.specs.Text.{board_end, page_text, text_of}

-- ── the end of the board ──
-- fewer than four bytes make no word
end_short : (bytes : List ℕ) → length bytes < 4 → board_end bytes ≡ length bytes
unfolding board_end
end_short [] h = refl
end_short (a ∷ []) h = refl
end_short (a ∷ (b ∷ [])) h = refl
end_short (a ∷ (b ∷ (c ∷ []))) h = refl
end_short (a ∷ (b ∷ (c ∷ (d ∷ rest)))) h = absurd (omega arith)

-- a word that is the end, and one that is not
end_here : (x rest : List ℕ) → length x ≡ 4 → get_or x 3 0 / 16 ≡ 15 → board_end (x ++ rest) ≡ 4
unfolding board_end
end_here [] rest l e = absurd (omega arith)
end_here (a ∷ []) rest l e = absurd (omega arith)
end_here (a ∷ (b ∷ [])) rest l e = absurd (omega arith)
end_here (a ∷ (b ∷ (c ∷ []))) rest l e = absurd (omega arith)
end_here (a ∷ (b ∷ (c ∷ (d ∷ [])))) rest l e = rw (eq-eqb (d / 16) 15 e) refl
end_here (a ∷ (b ∷ (c ∷ (d ∷ (f ∷ more))))) rest l e = absurd (omega arith)

end_later : (x rest : List ℕ) → length x ≡ 4 → (get_or x 3 0 / 16 ≡ 15 → ⊥) → board_end (x ++ rest) ≡ 4 + board_end rest
unfolding board_end
end_later [] rest l n = absurd (omega arith)
end_later (a ∷ []) rest l n = absurd (omega arith)
end_later (a ∷ (b ∷ [])) rest l n = absurd (omega arith)
end_later (a ∷ (b ∷ (c ∷ []))) rest l n = absurd (omega arith)
end_later (a ∷ (b ∷ (c ∷ (d ∷ [])))) rest l n = rw (ne_eqb (d / 16) 15 n) refl
end_later (a ∷ (b ∷ (c ∷ (d ∷ (f ∷ more))))) rest l n = absurd (omega arith)

-- DEFINITION: the rest is what follows index i, and no word before index i is the end
pub record Looked (bytes rest : List ℕ) (i : ℕ) : Type 0 where
  pub long : length bytes ≡ i + length rest
  pub left : board_end bytes ≡ i + board_end rest

pub looked_none : (bytes : List ℕ) → Looked bytes bytes 0
looked_none bytes = record { long = omega arith; left = omega arith }

module _ {bytes rest : List ℕ} {i : ℕ} (l : Looked bytes rest i) where
  pub looked-end : (x after : List ℕ) → rest ≡ x ++ after → length x ≡ 4 → get_or x 3 0 / 16 ≡ 15 → i + 4 ≡ board_end bytes
  looked-end x after e k f = let z = end_here x after k f in let y = rw e at l.left in omega (arith, y, z)

  pub looked-on : (x after : List ℕ) → rest ≡ x ++ after → length x ≡ 4 → (get_or x 3 0 / 16 ≡ 15 → ⊥) → Looked bytes after (i + 4)
  looked-on x after e k n =
      let z = end_later x after k n in
      let y = rw e at l.left in
      let w = rw e at l.long in
      record { long = omega (arith, w, k, length-append x after); left = omega (arith, y, z) }

  pub looked-all : length rest < 4 → length bytes ≡ board_end bytes
  looked-all h = let z = end_short rest h in omega (arith, l.left, l.long, z)

-- ── the text ──
-- the page stands at the start of the buffer
pub drawn_text : (x : Result (List ℕ)) {before after : List ℕ} {n : ℕ} → Writes x before (yes n) after → Holds (page_text x) n after
drawn_text (no r) {n = n} W = absurd (let z : yes n ≡ no r = W.answers in let y : ◌≡◌ {A = ℕ} 0 1 = cc in omega arith)
drawn_text (yes text) {before} {after} {n} W =
    let l : n ≡ length text = (let z : yes n ≡ yes (length text) = W.answers in cc) in
    let rest = drop (length text) before in
    let a : length after ≡ length text + length rest = ap length W.buffer ∙ length-append text rest in
    let t : take n after ≡ text = rw W.buffer (take_at text rest n (sym l)) in
    ((omega arith, rw t l), t)

-- a refusal is told by its line
pub refused_text : (x : Result (List ℕ)) {before after : List ℕ} {n p : ℕ} → Writes x before (no (refusal n p)) after
    → page_text x ≡ refused_line n (p ∷ [])
refused_text (no r) {n = n} {p} W = let e : r ≡ refusal n p = (let z : no (refusal n p) ≡ no r = W.answers in cc) in rw e refl
refused_text (yes text) {n = n} {p} W =
    absurd (let z : no (refusal n p) ≡ yes (length text) = W.answers in let y : ◌≡◌ {A = ℕ} 0 1 = cc in omega arith)

-- the board's refusal, or what drawing gives for the session that is read
pub unread_text : (board list : List ℕ) {r : AfterRead} (e : ReadRefusal) → ReadPromise (read_bytes board) r → r.answer ≡ Err e
    → page_text (editor_draw board list page_room) ≡ refused_line (read_number e) (read_place e ∷ [])
unfolding editor_draw
unread_text board list e P h = rw (read_refused P e h) refl

pub read_text : (board list : List ℕ) {r : AfterRead} → ReadPromise (read_bytes board) r → r.answer ≡ Ok tt
    → page_text (editor_draw board list page_room) ≡ page_text (draw_bytes (session_of r.session) list page_room)
unfolding editor_draw
read_text board list P e = rw (read_accepted P e) refl

-- the bytes up to the end of the board, and those behind it
pub parts_text : (bytes : List ℕ) (end : ℕ) → end ≡ board_end bytes
    → page_text (editor_draw (take end bytes) (take (length bytes - end) (drop end bytes)) page_room) ≡ text_of bytes
parts_text bytes end e =
    let d : take (length bytes - end) (drop end bytes) ≡ drop end bytes =
    take_all (length bytes - end) (drop end bytes) (omega (arith, length-drop end bytes)) in
    rw (d, e) refl
