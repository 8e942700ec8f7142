-- A line of the drawing byte by byte, lines one below the other, and what reading answers as a drawing; what is drawn is of the four named kinds.
-- Assumes what reading promises.
use Rattle.std.specs.Prelude.{◌≡◌, ℕ, zero, suc, ◌+◌, ◌<◌, length, get_or, Ok, Err}
use Rattle.std.proofs.Common.{ap, ◌∙◌, add-one, length-append, get_or-append-add}
use Rattle.std.proofs.Math.Path.{subst⁻¹}
use mathlib.Core.List.{List, [], ◌∷◌, ◌++◌, flat_map, append_assoc, append-nil}
use native.Mathlib.Omega.{arith}
use Rattle.std.proofs.Math.ListN.{get_or-append}
use Rattle.count.specs.Lists.{rising, up_to, length-rising, getD-rising}
use Rattle.text.specs.Line.{refused_line}
use Rattle.text.specs.Put.{Put}
use Rattle.text.specs.Laws.{put_then}
use Rattle.board.specs.Board.{Board, at, IsVertex}
use Rattle.board.specs.View.{board_of}
use Rattle.board.specs.declared.Vertex.{Vertex}
use Rattle.board_degree.specs.Kind.{kind_of, FallsUnderOne}
use Rattle.board_degree.proofs.Convex.{falls_under_one}
use Rattle.session_rules.specs.Session.{Session}
use Rattle.call_rules.specs.Result.{yes}
use Rattle.call_rules.specs.Reading.{read_bytes}
use Rattle.board_roundtrip.specs.RoundTrip.{read_bytes_sound}
use Rattle.board_reading.specs.Promise.{AfterRead, ReadPromise}
use Rattle.board_reading.proofs.ReadAs.{read_refused, read_accepted}
use Rattle.board_reading.specs.Refused.{read_number, read_place}
use Rattle.board_reading.specs.declared.ReadRefusal.{ReadRefusal}
use Rattle.degrees.specs.Drawing.{sign_of, signs_on, line_drawn, board_drawn, drawn, bytes_drawn}

-- ── a line ──
module _ (b : Board) (l : ℕ) where
  signs-32 : length (signs_on b l) ≡ 32
  unfolding signs_on
  signs-32 = length-rising (λ c. sign_of (kind_of b (at l c))) 0 32

  pub line-33 : length (line_drawn b l) ≡ 33
  line-33 = omega (arith, length-append (signs_on b l) (10 ∷ []), signs-32)

  pub sign_at : (c : ℕ) → c < 32 → get_or (line_drawn b l) c 0 ≡ sign_of (kind_of b (at l c))
  unfolding signs_on
  sign_at c h =
      let e : 0 + c ≡ c = omega arith in
      get_or-append (signs_on b l) (10 ∷ []) 0 c (omega (arith, signs-32)) ∙ rw e at (getD-rising (λ k. sign_of (kind_of b (at l k))) 0 32 c 0 h)

  pub line-feed : get_or (line_drawn b l) 32 0 ≡ 10
  line-feed =
      let e : length (signs_on b l) + 0 ≡ 32 = omega (arith, signs-32) in
      rw e at (get_or-append-add (signs_on b l) (10 ∷ []) 0 0)

-- ── a line more ──
lines_more : (f : ℕ → List ℕ) (i n : ℕ) → flat_map f (rising i (suc n)) ≡ flat_map f (rising i n) ++ f (i + n)
unfolding flat_map
lines_more f i zero = let e : i + 0 ≡ i = omega arith in rw e (append-nil (f i))
lines_more f i (suc n) =
    let e : i + suc n ≡ suc i + n = omega arith in
    rw (e, append_assoc) (ap (λ (t : List ℕ). f i ++ t) (lines_more f (suc i) n))

pub put_line_more : (f : ℕ → List ℕ) (n : ℕ) {i j : ℕ} {b c d : List ℕ} → Put (flat_map f (up_to n)) 0 b i c → Put (f n) i c j d
    → Put (flat_map f (up_to (n + 1))) 0 b j d
put_line_more f n {j = j} {b = b} {d = d} P Q =
    let e : 0 + n ≡ n = omega arith in
    let more : flat_map f (up_to (n + 1)) ≡ flat_map f (up_to n) ++ f n = rw add-one (rw e at (lines_more f 0 n)) in
    subst⁻¹ (λ (t : List ℕ). Put t 0 b j d) more (put_then P Q)

-- ── what reading answers ──
pub refusal_drawn : (bytes : List ℕ) {r : AfterRead} (e : ReadRefusal) → ReadPromise (read_bytes bytes) r → r.answer ≡ Err e
    → bytes_drawn bytes ≡ refused_line (read_number e) (read_place e ∷ [])
refusal_drawn bytes e P h = ap drawn (read_refused P e h)

pub board-drawn : (bytes : List ℕ) {r : AfterRead} → ReadPromise (read_bytes bytes) r → r.answer ≡ Ok tt
    → bytes_drawn bytes ≡ board_drawn (board_of r.session.block.board)
board-drawn bytes P e = ap drawn (read_accepted P e)

-- every vertex that is drawn is of one of the four named kinds: no "t" comes
pub named_kinds : (bytes : List ℕ) (s : Session) → read_bytes bytes ≡ yes s → (v : Vertex) → IsVertex s.block.board v
    → FallsUnderOne s.block.board v
named_kinds bytes s e v h = let sound = read_bytes_sound bytes s e in falls_under_one s.block.board sound.within sound.convex v h
