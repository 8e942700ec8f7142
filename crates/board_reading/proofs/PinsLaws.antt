-- The pass over a list of words that takes their pins: it is that of the definition of reading. The words of taken pins stand behind those of the
-- rows.
-- Assumes, of the words as a whole, that they were accepted through 12 to 15.
use Rattle.std.specs.Prelude.{◌≡◌, true, false, List, [], ◌∷◌, ◌++◌, ℕ, suc, ◌+◌, ◌<◌, length, drop, get_or}
use Rattle.std.proofs.Math.Path.{refl, sym}
use Rattle.std.proofs.Common.{ap, ◌∙◌, append_assoc, append-nil, arith, add-one, length-append, drop-cons}
use Rattle.std.proofs.Math.Option.{none, some}
use Rattle.std.proofs.Math.Seq.{drop-length}
use Rattle.count.specs.TruthLaws.{clash, or_false}
use Rattle.board.specs.Board.{Board}
use Rattle.board_block.specs.Taken.{over_taken}
use Rattle.board_block.specs.View.{none_taken, with_taken, with_all}
use Rattle.board_block.specs.declared.Book.{Book}
use Rattle.board_block.specs.declared.Book.TheVariants.{Old}
use Rattle.board_block.specs.declared.TakenPins.{TakenPins}
use Rattle.session_rules.specs.Refusal.{refusal, Line, line, first_refusal}
use Rattle.words.specs.BoardWord.{board_word}
use Rattle.words.specs.Inverse.{says_row, says_taken, says_net, says_end, says_nothing, says_board}
use Rattle.words.specs.declared.BoardWord.{BoardWord}
use Rattle.words.specs.declared.BoardWord.TheVariants as word
use Rattle.call_rules.specs.Result.{yes}
use Rattle.call_rules.specs.Reading.{Listed, Parsed, nothing_parsed, some?, not_after, pin_lines, take, take_words}
use Rattle.board_roundtrip.specs.Accepted.{passes, nothing_after, no_end}
use Rattle.board_reading.specs.Pins.{pins_then, pins_in, line_then, lines_in}

-- ── one word further ──
-- DEFINITION: before word i the array has the pins of the words before it, and 38 is due of none of these
pub record Pinning (book : Book) (b : Board) (ws : List ℕ) (i : ℕ) (a : List ℕ) : Type 0 where
  pub lines : first_refusal (lines_in book b 0 ws) ≡ first_refusal (lines_in book b i (drop i ws))
  pub array : with_all none_taken (pins_in ws) ≡ with_all a (pins_in (drop i ws))

pub pinning_start : (book : Book) (b : Board) (ws : List ℕ) → Pinning book b ws 0 none_taken
pinning_start book b ws = record { lines = refl; array = refl }

-- DEFINITION: the word takes no pins
abbrev pub NoPins : BoardWord → Type 0
NoPins w = (p : TakenPins) → w ≡ word.Taken p → ⊥

no_line : (book : Book) (b : Board) (i : ℕ) (w : BoardWord) (ls : List Line) → NoPins w → line_then book b i w ls ≡ ls
no_line book b i (word.Row r) ls f = refl
no_line book b i (word.Taken p) ls f = absurd (f p refl)
no_line book b i (word.Net n) ls f = refl
no_line book b i (word.End c) ls f = refl
no_line book b i word.Unknown ls f = refl

no_pin : (w : BoardWord) (ps : List TakenPins) → NoPins w → pins_then w ps ≡ ps
no_pin (word.Row r) ps f = refl
no_pin (word.Taken p) ps f = absurd (f p refl)
no_pin (word.Net n) ps f = refl
no_pin (word.End c) ps f = refl
no_pin word.Unknown ps f = refl

module _ (book : Book) (b : Board) (ws : List ℕ) (i : ℕ) (a : List ℕ) (P : Pinning book b ws i a) where
  module _ (h : i < length ws) where
    lines-here : first_refusal (lines_in book b 0 ws)
        ≡ first_refusal (line_then book b i (board_word (get_or ws i 0)) (lines_in book b (suc i) (drop (suc i) ws)))
    unfolding lines_in
    lines-here = P.lines ∙ rw (drop-cons ws i 0 h) refl

    pins-here : with_all none_taken (pins_in ws) ≡ with_all a (pins_then (board_word (get_or ws i 0)) (pins_in (drop (suc i) ws)))
    unfolding pins_in
    pins-here = P.array ∙ rw (drop-cons ws i 0 h) refl

    -- pins that are there are taken
    pub pinning-taken : (p : TakenPins) → board_word (get_or ws i 0) ≡ word.Taken p → over_taken book b p ≡ false
        → Pinning book b ws (i + 1) (with_taken a p)
    unfolding with_all
    pinning-taken p e o = rw (add-one i) (record { lines = lines-here ∙ rw (e, o) refl; array = pins-here ∙ rw e refl })

    -- another word is passed over
    pub pinning-other : NoPins (board_word (get_or ws i 0)) → Pinning book b ws (i + 1) a
    pinning-other f = rw (add-one i) (record {
      lines = lines-here ∙ ap first_refusal (no_line book b i (board_word (get_or ws i 0)) (lines_in book b (suc i) (drop (suc i) ws)) f);
      array = pins-here ∙ ap (with_all a) (no_pin (board_word (get_or ws i 0)) (pins_in (drop (suc i) ws)) f);
    })

    pub pinning-refused : (p : TakenPins) → board_word (get_or ws i 0) ≡ word.Taken p → over_taken book b p ≡ true
        → first_refusal (lines_in book b 0 ws) ≡ some (refusal 38 i)
    pinning-refused p e o = lines-here ∙ rw (e, o) refl

  pub pinning-end : i ≡ length ws → (first_refusal (lines_in book b 0 ws) ≡ none) × (a ≡ with_all none_taken (pins_in ws))
  unfolding lines_in pins_in with_all
  pinning-end e = (P.lines ∙ rw (e, drop-length ws) refl, sym (P.array ∙ rw (e, drop-length ws) refl))

-- ── the taken pins of words that were accepted ──
none_nets : (ns : List Listed) → some? ns ≡ false → length ns ≡ 0
none_nets [] e = refl
none_nets (n ∷ ns) e = absurd (clash refl e)

some_last : (ps : List TakenPins) (p : TakenPins) → some? (ps ++ (p ∷ [])) ≡ true
some_last [] p = refl
some_last (q ∷ qs) p = refl

-- with taken pins no row comes any more
rows_stay : (ws : List ℕ) (i : ℕ) (t u : Parsed) → t.ended ≡ false → some? t.pins ≡ true → take_words i t ws ≡ yes u → u.rows ≡ t.rows
rows_stay [] i t u h s e = absurd (no_end i t u h e)
rows_stay (w ∷ ws) i t u h s e = elim (says_board w) [
  | says_row r fits p q ↦ absurd (clash s (or_false (some? t.pins) (some? t.nets) (passes w ws i t u (word.Row r) q e).placed).0)
  | says_taken p fits f q ↦ rows_stay ws (suc i) (take i t (word.Taken p)) u h (some_last t.pins p) (passes w ws i t u (word.Taken p) q e).rest
  | says_net n fits p q ↦ rows_stay ws (suc i) (take i t (word.Net n)) u h s (passes w ws i t u (word.Net n) q e).rest
  | says_end c a b p q ↦
      ap (λ (x : Parsed). x.rows) (sym (nothing_after ws (suc i) (take i t (word.End c)) u refl (passes w ws i t u (word.End c) q e).rest).1)
  | says_nothing q ↦ absurd (clash refl (passes w ws i t u word.Unknown q e).known)
]

lines_last : (book : Book) (b : Board) (i : ℕ) (ps : List TakenPins) (p : TakenPins) (ls : List Line)
    → pin_lines book b i (ps ++ (p ∷ [])) ++ ls ≡ pin_lines book b i ps ++ (line (over_taken book b p) 38 (i + length ps) ∷ ls)
unfolding pin_lines
lines_last book b i [] p ls = let z : i + 0 ≡ i = omega arith in rw z refl
lines_last book b i (q ∷ qs) p ls =
    let z : i + suc (length qs) ≡ suc i + length qs = omega arith in
    rw z (ap (λ (l : List Line). line (over_taken book b q) 38 i ∷ l) (lines_last book b (suc i) qs p ls))

-- DEFINITION: the taken pins of u are those of t and then those of the words ws, which begin at index i; and so are the lines of 38
record Goes (book : Book) (b : Board) (i : ℕ) (t : Parsed) (ws : List ℕ) (u : Parsed) : Type 0 where
  pins : u.pins ≡ t.pins ++ pins_in ws
  lines : pin_lines book b (length u.rows) u.pins ≡ pin_lines book b (length u.rows) t.pins ++ lines_in book b i ws

-- a word that takes no pins
goes-on : (book : Book) (b : Board) (i : ℕ) (t u : Parsed) (w : ℕ) (ws : List ℕ) → ((ps : List TakenPins) → pins_then (board_word w) ps ≡ ps)
    → ((ls : List Line) → line_then book b i (board_word w) ls ≡ ls) → Goes book b (suc i) t ws u → Goes book b i t (w ∷ ws) u
unfolding pins_in lines_in
goes-on book b i t u w ws f g h = record { pins = rw (f (pins_in ws)) h.pins; lines = rw (g (lines_in book b (suc i) ws)) h.lines }

goes : (book : Book) (b : Board) (ws : List ℕ) (i : ℕ) (t u : Parsed) → t.ended ≡ false → i ≡ length t.rows + length t.pins + length t.nets
    → take_words i t ws ≡ yes u → Goes book b i t ws u
unfolding pins_in lines_in
goes book b [] i t u h n e = absurd (no_end i t u h e)
goes book b (w ∷ ws) i t u h n e = elim (says_board w) [
  | says_row r fits p q ↦
      let k = passes w ws i t u (word.Row r) q e in
      let m = goes book b ws (suc i) (take i t (word.Row r)) u h (omega (arith, length-append t.rows (r ∷ []))) k.rest in
      goes-on book b i t u w ws (λ ps. rw q refl) (λ ls. rw q refl) (record { pins = m.pins; lines = m.lines })
  | says_taken p fits f q ↦
      let k = passes w ws i t u (word.Taken p) q e in
      let s = take i t (word.Taken p) in
      let m = goes book b ws (suc i) s u h (omega (arith, length-append t.pins (p ∷ []))) k.rest in
      let z = none_nets t.nets (or_false (some? t.nets) (not_after p.vertex t.pins) k.placed).0 in
      let r : u.rows ≡ t.rows = rows_stay ws (suc i) s u h (some_last t.pins p) k.rest in
      let d : length u.rows + length t.pins ≡ i = omega (arith, ap length r) in
      record {
        pins = rw q (m.pins ∙ append_assoc t.pins (p ∷ []) (pins_in ws));
        lines = rw q (m.lines ∙ (rw d at (lines_last book b (length u.rows) t.pins p (lines_in book b (suc i) ws))));
      }
  | says_net x fits p q ↦
      let k = passes w ws i t u (word.Net x) q e in
      let m = goes book b ws (suc i) (take i t (word.Net x)) u h (omega arith) k.rest in
      goes-on book b i t u w ws (λ ps. rw q refl) (λ ls. rw q refl) (record { pins = m.pins; lines = m.lines })
  | says_end c x y p q ↦
      let k = nothing_after ws (suc i) (take i t (word.End c)) u refl (passes w ws i t u (word.End c) q e).rest in
      goes-on book b i t u w ws (λ ps. rw q refl) (λ ls. rw q refl) (rw (k.0, ← k.1) (record {
        pins = sym (append-nil t.pins);
        lines = sym (append-nil (pin_lines book b (length t.rows) t.pins));
      }))
  | says_nothing q ↦ absurd (clash refl (passes w ws i t u word.Unknown q e).known)
]

module _ (ws : List ℕ) (u : Parsed) (e : take_words 0 nothing_parsed ws ≡ yes u) where
  pub taken-pins : u.pins ≡ pins_in ws
  taken-pins = (goes Old (record { rows = [] }) ws 0 nothing_parsed u refl refl e).pins

  pub taken-lines : (book : Book) (b : Board) → pin_lines book b (length u.rows) u.pins ≡ lines_in book b 0 ws
  unfolding pin_lines
  taken-lines book b = (goes book b ws 0 nothing_parsed u refl refl e).lines
