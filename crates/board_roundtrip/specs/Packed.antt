-- The packed words of rows, taken pins, nets and counts that fit are taken as just these.
-- Assumes the limits of rows, taken pins and nets, that taken pins come in reading order, and that the numbers of nets rise.
use Rattle.std.specs.Prelude.{◌≡◌, refl, Bool, true, false, ◌&&◌, List, [], ◌∷◌, ◌++◌, map, ℕ, suc, ◌+◌, ◌≤◌, ◌<◌, eqb, length}
use Rattle.std.proofs.Common.{ap, ◌∙◌, append-nil, append_assoc, arith, length-append, lt-ltb, eq-eqb, ne_eqb}
use Rattle.std.proofs.lemmas.Bool.{lt-leb}
use Rattle.board.specs.declared.Row.{Row}
use Rattle.board_block.specs.Taken.{in_order?}
use Rattle.board_block.specs.declared.Book.{Book}
use Rattle.board_block.specs.declared.TakenPins.{TakenPins}
use Rattle.net.specs.declared.Net.{Net}
use Rattle.session_laws.specs.Rising.{From}
use Rattle.words.specs.BoardWord.{row_word, taken_word, net_word, end_word}
use Rattle.words.specs.Inverse.{TakenFits, NetFits, row_back, taken-back, net_back, end_back}
use Rattle.call_rules.specs.Result.{yes}
use Rattle.call_rules.specs.Reading.{Listed, not_above, not_after, word_lines, take_words, reverse}
use Rattle.board_roundtrip.specs.Parts.{taken, ended, listing, nets_in, listed_from, listed_onto, RowsFit, PinsFit, NetsFit}
use Rattle.board_roundtrip.specs.Pins.{order_next}

and_no : (a : Bool) → a && false ≡ false
and_no true = refl
and_no false = refl

-- ── one word ──
take_row : (i : ℕ) (rs : List Row) (r : Row) (ws : List ℕ) → r.left < r.right → r.right ≤ 31 → length rs < 31
    → take_words i (taken rs [] []) (row_word r ∷ ws) ≡ take_words (suc i) (taken (rs ++ (r ∷ [])) [] []) ws
unfolding take_words word_lines
take_row i rs r ws h k l =
    rw (row_back r (omega arith, omega arith), and_no (eqb i 0), lt-ltb r.left r.right h, lt-leb 31 (length rs) l) refl

take_pin : (i : ℕ) (rs : List Row) (ts : List TakenPins) (t : TakenPins) (ws : List ℕ) → 1 ≤ i → TakenFits t → not_after t.vertex ts ≡ false
    → take_words i (taken rs ts []) (taken_word t ∷ ws) ≡ take_words (suc i) (taken rs (ts ++ (t ∷ [])) []) ws
unfolding take_words word_lines
take_pin i rs ts t ws h f e = rw (taken-back t f, ne_eqb i 0 (λ z. omega arith), e) refl

take_net : (i : ℕ) (rs : List Row) (ts : List TakenPins) (ls : List Listed) (n : Net) (ws : List ℕ) → 1 ≤ i → NetFits n
    → not_above n.number ls ≡ false
    → take_words i (taken rs ts ls) (net_word n ∷ ws) ≡ take_words (suc i) (taken rs ts (listing i n ∷ ls)) ws
unfolding take_words word_lines
take_net i rs ts ls n ws h f e = rw (net_back n f, ne_eqb i 0 (λ z. omega arith), e) refl

pub take_end : (k : Book) (i : ℕ) (rs : List Row) (ts : List TakenPins) (ls : List Listed) (n : ℕ) → 1 ≤ i → length rs < 256 → length ls < 256
    → length ls ≡ n → take_words i (taken rs ts ls) (end_word k (length rs) n ∷ []) ≡ yes (ended k rs ts ls)
unfolding take_words word_lines
take_end k i rs ts ls n h l m e =
    rw (
      ← e,
      end_back (record { book = k; rows = length rs; nets = length ls }) l m,
      ne_eqb i 0 (λ z. omega arith),
      eq-eqb (length rs) (length rs) refl,
      eq-eqb (length ls) (length ls) refl,
    ) refl

-- ── all rows, then all taken pins, then all nets ──
pub take_rows : (rs before : List Row) (i : ℕ) (ws : List ℕ) → RowsFit rs → length before + length rs ≤ 31
    → take_words i (taken before [] []) (map row_word rs ++ ws) ≡ take_words (i + length rs) (taken (before ++ rs) [] []) ws
take_rows [] before i ws f h = let e : i + 0 ≡ i = omega arith in rw (e, append-nil before) refl
take_rows (r ∷ rs) before i ws f h =
    let l = length-append before (r ∷ []) in
    let e : i + suc (length rs) ≡ suc i + length rs = omega arith in
    take_row i before r (map row_word rs ++ ws) f.0.0 f.0.1 (omega arith)
    ∙ take_rows rs (before ++ (r ∷ [])) (suc i) ws f.1 (omega arith)
    ∙ rw (e, append_assoc before (r ∷ []) rs) refl

pub take_pins : (ts before : List TakenPins) (i : ℕ) (rs : List Row) (ws : List ℕ) → 1 ≤ i → PinsFit ts → in_order? (before ++ ts) ≡ true
    → take_words i (taken rs before []) (map taken_word ts ++ ws) ≡ take_words (i + length ts) (taken rs (before ++ ts) []) ws
take_pins [] before i rs ws h f o = let e : i + 0 ≡ i = omega arith in rw (e, append-nil before) refl
take_pins (t ∷ ts) before i rs ws h f o =
    let e : i + suc (length ts) ≡ suc i + length ts = omega arith in
    let more = append_assoc before (t ∷ []) ts in
    take_pin i rs before t (map taken_word ts ++ ws) h f.0 (order_next before t ts o)
    ∙ take_pins ts (before ++ (t ∷ [])) (suc i) rs ws (omega arith) f.1 (rw more o)
    ∙ rw (e, more) refl

pub take_nets : (ns : List Net) (i k : ℕ) (rs : List Row) (ts : List TakenPins) (ls : List Listed) (ws : List ℕ) → 1 ≤ i → NetsFit ns
    → From k ns → ((j : ℕ) → k ≤ j → not_above j ls ≡ false)
    → take_words i (taken rs ts ls) (map net_word ns ++ ws) ≡ take_words (i + length ns) (taken rs ts (listed_onto i ns ls)) ws
take_nets [] i k rs ts ls ws h f r a = let e : i + 0 ≡ i = omega arith in rw e refl
take_nets (n ∷ ns) i k rs ts ls ws h f r a =
    let e : i + suc (length ns) ≡ suc i + length ns = omega arith in
    take_net i rs ts ls n (map net_word ns ++ ws) h f.0 (a n.number r.0)
    ∙ take_nets ns (suc i) (suc n.number) rs ts (listing i n ∷ ls) ws (omega arith) f.1 r.1 (λ j p. lt-leb j n.number p)
    ∙ rw e refl

-- ── what was listed ──
pub length_onto : (ns : List Net) (i : ℕ) (ls : List Listed) → length (listed_onto i ns ls) ≡ length ns + length ls
length_onto [] i ls = omega arith
length_onto (n ∷ ns) i ls = omega (arith, length_onto ns (suc i) (listing i n ∷ ls))

pub reverse_onto : (ns : List Net) (i : ℕ) (ls back : List Listed) → reverse (listed_onto i ns ls) back ≡ reverse ls (listed_from i ns ++ back)
reverse_onto [] i ls back = refl
reverse_onto (n ∷ ns) i ls back = reverse_onto ns (suc i) (listing i n ∷ ls) back

pub nets-from : (ns : List Net) (i : ℕ) → nets_in (listed_from i ns) ≡ ns
nets-from [] i = refl
nets-from (n ∷ ns) i = ap (λ (ms : List Net). n ∷ ms) (nets-from ns (suc i))
