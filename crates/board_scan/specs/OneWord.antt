-- The scan keeps of the words what their refusals need: one word is refused, or taken, as the definition does it with its `Parsed`.
-- Assumes nothing.
use Rattle.std.specs.Prelude as prelude
use Rattle.std.specs.Prelude.{◌≡◌, refl, Bool, true, false, not, ◌&&◌, ◌||◌}
use Rattle.std.specs.Prelude.{List, [], ◌∷◌, ◌++◌, ℕ, suc, ◌+◌, ◌-◌, ◌<◌, leb, ltb, eqb, length, set, replicate}
use Rattle.std.proofs.Common.{ap, append_assoc, add-one, arith, length-append, leb-false}
use Rattle.std.proofs.Math.Bool.{and-true}
use Rattle.std.proofs.Math.Seq.{set-append_seam}
use Rattle.count.specs.TruthLaws.{or_false}
use Rattle.board.specs.Board.{no_row}
use Rattle.board.specs.declared.Row.{Row}
use Rattle.board.specs.declared.Vertex.{Vertex}
use Rattle.board_block.specs.declared.TakenPins.{TakenPins}
use Rattle.session_rules.specs.Refusal.{refusal, line, first_refusal}
use Rattle.words.specs.declared.BoardWord.{BoardWord}
use Rattle.words.specs.declared.BoardWord.TheVariants as word
use Rattle.call_rules.specs.Result.{Result, no, yes, unless}
use Rattle.call_rules.specs.Reading.{Listed, Parsed, some?, not_above, not_after, word_lines, take}
use Rattle.board_scan.specs.Refused.{fault_number}
use Rattle.board_scan.specs.Scan.{there?, pin_again, net_again, checked, with_row, with_taken, with_net, with_end, with_word}
use Rattle.board_scan.specs.Promise.{last_of, last_vertex, scan_for}
use Rattle.board_scan.specs.declared.Scan.{Scan}
use Rattle.board_scan.specs.declared.WordFault.{WordFault}

-- DEFINITION: what the code makes of the word at index i, as the definition's result
abbrev pub one_word : ℕ → prelude.Result Scan WordFault → Result Scan
one_word i (prelude.Err f) = no (refusal (fault_number f) i)
one_word i (prelude.Ok s) = yes s

-- ── the last net, and the last vertex of taken pins ──
there_net : (ns : List Listed) → there? (last_of ns) ≡ some? ns
there_net [] = refl
there_net (n ∷ ns) = refl

above_last : (k : ℕ) (ns : List Listed) → net_again (last_of ns) k ≡ not_above k ns
above_last k [] = refl
above_last k (n ∷ ns) = refl

there_pin : (ps : List TakenPins) → there? (last_vertex ps) ≡ some? ps
there_pin [] = refl
there_pin (p ∷ []) = refl
there_pin (p ∷ (q ∷ qs)) = there_pin (q ∷ qs)

after_last : (v : Vertex) (ps : List TakenPins) → pin_again (last_vertex ps) v ≡ not_after v ps
after_last v [] = refl
after_last v (p ∷ []) = refl
after_last v (p ∷ (q ∷ qs)) = after_last v (q ∷ qs)

last-of : (ps : List TakenPins) (p : TakenPins) → last_vertex (ps ++ (p ∷ [])) ≡ prelude.Some p.vertex
last-of [] p = refl
last-of (q ∷ []) p = refl
last-of (q ∷ (r ∷ rs)) p = last-of (r ∷ rs) p

-- ── the refusals of a word of a known kind, over plain truth values ──
checked_lines : (i : ℕ) (misplaced row count : Bool) (s t : Scan) → (row ≡ false → s ≡ t)
    → one_word i (checked misplaced row count s)
    ≡ unless (first_refusal (line false 12 i ∷ line misplaced 13 i ∷ line row 14 i ∷ line count 15 i ∷ [])) (yes t)
checked_lines i true row count s t h = refl
checked_lines i false true count s t h = refl
checked_lines i false false true s t h = refl
checked_lines i false false false s t h = ap yes (h refl)

-- a row stored after the last one
array_more : (rs : List Row) (r : Row) → length rs < 31
    → set (rs ++ replicate (31 - length rs) no_row) (length rs) r ≡ (rs ++ (r ∷ [])) ++ replicate (31 - length (rs ++ (r ∷ []))) no_row
array_more rs r h =
    let n : 31 - length rs ≡ suc (31 - suc (length rs)) = omega arith in
    let m : 31 - length (rs ++ (r ∷ [])) ≡ 31 - suc (length rs) = omega (arith, length-append rs (r ∷ [])) in
    rw (n, m, append_assoc rs (r ∷ []) (replicate (31 - suc (length rs)) no_row))
    (set-append_seam rs no_row (replicate (31 - suc (length rs)) no_row) r)

module _ (t : Parsed) (i : ℕ) where
  row_same : (r : Row)
      → one_word i (with_row (scan_for t) r) ≡ unless (first_refusal (word_lines i t (word.Row r))) (yes (scan_for (take i t (word.Row r))))
  unfolding with_row word_lines
  row_same r =
      rw (there_pin t.pins, there_net t.nets, and_false (eqb i 0))
      (checked_lines i ((some? t.pins || some? t.nets) || t.ended) (not (ltb r.left r.right) || leb 31 (length t.rows)) false _ _ stored)
    where
      and_false : (b : Bool) → b && false ≡ false
      and_false true = refl
      and_false false = refl

      stored : not (ltb r.left r.right) || leb 31 (length t.rows) ≡ false
          → ◌≡◌ {A = Scan} (record {
            board = record { count = length t.rows + 1; rows = set (t.rows ++ replicate (31 - length t.rows) no_row) (length t.rows) r };
            pin = last_vertex t.pins;
            nets = length t.nets;
            last = last_of t.nets;
            book = t.book;
            ended = t.ended;
          }) (scan_for (take i t (word.Row r)))
      stored e =
          let h : length t.rows < 31 = leb-false 31 (length t.rows) (or_false (not (ltb r.left r.right)) (leb 31 (length t.rows)) e).1 in
          let c : length t.rows + 1 ≡ length (t.rows ++ (r ∷ [])) = omega (arith, length-append t.rows (r ∷ [])) in
          rw (c, array_more t.rows r h) refl

  taken_same : (p : TakenPins)
      → one_word i (with_taken (scan_for t) (eqb i 0) p)
      ≡ unless (first_refusal (word_lines i t (word.Taken p))) (yes (scan_for (take i t (word.Taken p))))
  unfolding with_taken word_lines
  taken_same p =
      rw (there_net t.nets, after_last p.vertex t.pins, and-true (eqb i 0), last-of t.pins p)
      (checked_lines i (eqb i 0 || ((some? t.nets || not_after p.vertex t.pins) || t.ended)) false false _ _ (λ z. refl))

-- the code refuses a word, or takes it, as the definition does
pub word_same : (t : Parsed) (i : ℕ) (w : BoardWord)
    → one_word i (with_word (scan_for t) (eqb i 0) w) ≡ unless (first_refusal (word_lines i t w)) (yes (scan_for (take i t w)))
unfolding with_word with_net with_end word_lines
word_same t i (word.Row r) = row_same t i r
word_same t i (word.Taken p) = taken_same t i p
word_same t i (word.Net n) =
    rw (above_last n.number t.nets, and-true (eqb i 0), add-one (length t.nets))
    (checked_lines i (eqb i 0 || (not_above n.number t.nets || t.ended)) false false _ _ (λ z. refl))
word_same t i (word.End c) =
    rw (and-true (eqb i 0))
    (checked_lines i (eqb i 0 || t.ended) false (not (eqb c.rows (length t.rows) && eqb c.nets (length t.nets))) _ _ (λ z. refl))
word_same t i word.Unknown = refl
