-- The bytes of a page one by one, as they are written.
-- Assumes nothing.
use Rattle.std.specs.Prelude.{◌≡◌, Bool, List, ℕ, ◌+◌, ◌*◌, ◌/◌, ◌%◌, ◌<◌, ltb, ◌≤◌, ◌++◌, length, take, drop, get_or, set}
use Rattle.std.proofs.Math.Path.{refl}
use Rattle.std.proofs.Common.{ap, sym, ◌∙◌, inl, inr, arith, add-one, take-suc, take_all, length-take-le, append-nil}
use Rattle.std.proofs.Math.ListN.{drop_of_length-le}
use borrow.Author.Tests.{eq-eqb, ne_eqb, ltb-true, ltb-false}
use Rattle.count.specs.TruthLaws.{bool}
use Rattle.board.specs.Board.{Board, height, at, Edge}
use Rattle.board.specs.Path.{along}
use Rattle.board.specs.Degree.{vertex?}
use Rattle.board.specs.declared.Direction.TheVariants.{Right, Down}
use Rattle.call_rules.specs.Result.{yes}
use Rattle.call_rules.specs.Writing.{written_into, Writes}
use Rattle.call_rules.proofs.WritingLaws.{store_next}
use Rattle.call_rules.specs.Page.{plus, dash, bar, space, sign_if, on_line, below_line, character_at, page}
use Rattle.call_rules.proofs.PageLaws.{page-length, page-at, page-feed}
use Rattle.judge_walk.specs.Slots.{slot_at}
use Rattle.judge_walk.specs.SlotLaws.{slot_across, slot_down}
use Rattle.judge_page.specs.Marked.{marked, byte_at}

-- ── character by character ──
-- text lines and characters with an even number, and with an odd one
module _ (b : Board) (m : List ℕ) (y x : ℕ) where
  pub vertex-character : y % 2 ≡ 0 → x % 2 ≡ 0 → sign_if (vertex? b (at (y / 2) (x / 2))) plus ≡ character_at b (marked m) y x
  unfolding on_line
  vertex-character h k = rw (eq-eqb (y % 2) 0 h, eq-eqb (x % 2) 0 k) refl

  pub across-character : y % 2 ≡ 0 → (x % 2 ≡ 0 → ⊥)
      → sign_if (ltb 0 (get_or m (slot_at Right (at (y / 2) (x / 2))) 0)) dash ≡ character_at b (marked m) y x
  unfolding on_line
  across-character h k = rw (eq-eqb (y % 2) 0 h, ne_eqb (x % 2) 0 k, slot_across (along Right (at (y / 2) (x / 2))) refl) refl

  pub down-character : (y % 2 ≡ 0 → ⊥) → x % 2 ≡ 0
      → sign_if (ltb 0 (get_or m (slot_at Down (at (y / 2) (x / 2))) 0)) bar ≡ character_at b (marked m) y x
  unfolding below_line
  down-character h k = rw (ne_eqb (y % 2) 0 h, eq-eqb (x % 2) 0 k, slot_down (along Down (at (y / 2) (x / 2))) refl) refl

  pub blank-character : (y % 2 ≡ 0 → ⊥) → (x % 2 ≡ 0 → ⊥) → space ≡ character_at b (marked m) y x
  unfolding below_line
  blank-character h k = rw (ne_eqb (y % 2) 0 h, ne_eqb (x % 2) 0 k) refl

-- ── byte by byte ──
module _ (b : Board) (used : Edge → Bool) where
  pub byte-at : (i : ℕ) → i < 64 * (2 * height b + 1) → get_or (page b used) i 0 ≡ byte_at b used i
  byte-at i h =
      let e : 64 * (i / 64) + i % 64 ≡ i = omega arith in
      elim (bool (ltb (i % 64) 63)) [
        | inl t ↦ rw t (rw e at (page-at b used (i / 64) (i % 64) (omega arith) (ltb-true (i % 64) 63 t)))
        | inr t ↦
            let x : i % 64 ≡ 63 = (let z = ltb-false (i % 64) 63 t in omega arith) in
            rw t (rw (← x, e) at (page-feed b used (i / 64) (omega arith)))
      ]

  -- the first i bytes stand; one more
  pub byte_more : (before : List ℕ) (i : ℕ) {out : List ℕ} {x : ℕ} → i < 64 * (2 * height b + 1) → i < length before
      → out ≡ written_into before (take i (page b used)) → x ≡ byte_at b used i → set out i x ≡ written_into before (take (i + 1) (page b used))
  byte_more before i {out} {x} h k f e =
      let l : i < length (page b used) = omega (arith, page-length b used) in
      rw (add-one i, take-suc (page b used) i 0 l, byte-at i h, e)
      (store_next (take i (page b used)) out before i (byte_at b used i) (length-take-le i (page b used) (omega arith)) k f)

  -- all of them stand at the start of the buffer
  pub bytes-all : (before : List ℕ) (i : ℕ) {n : ℕ} {out : List ℕ} → n ≡ 64 * (2 * height b + 1) → n ≤ length before → n ≤ i
      → out ≡ written_into (take n before) (take i (page b used)) → Writes (yes (page b used)) before (yes n) (out ++ drop n before)
  bytes-all before i {n} {out} e k h f =
      let p : n ≡ length (page b used) = e ∙ sym (page-length b used) in
      let d = drop_of_length-le (take n before) {i = length (page b used)} (omega (arith, length-take-le n before k)) in
      let g : out ≡ page b used = rw (take_all i (page b used) (omega arith), d, append-nil (page b used)) at f in
      record { answers = ap (λ (k : ℕ). yes k) p; buffer = rw (g, ← p) refl }
