-- Words that pass the lines 12 to 15 are the words of what was taken from them. Its taken pins come in reading order and fit their words, and the
-- numbers of its nets rise.
-- Assumes that the words were accepted.
use Rattle.std.specs.Prelude.{◌≡◌, refl, true, false, not, ◌&&◌, ◌||◌, List, [], ◌∷◌, ◌++◌, map, ℕ, suc, ◌+◌, ◌≤◌, eqb, length}
use Rattle.std.proofs.Common.{ap, ◌∙◌, append_assoc, arith, leb-false, eqb-true}
use Rattle.std.proofs.lemmas.List.{map-append}
use Rattle.std.proofs.lemmas.Bool.{not-false}
use Rattle.count.specs.TruthLaws.{clash, and_true, or_false}
use Rattle.count.specs.Each.{each_append}
use Rattle.board.specs.declared.Row.{Row}
use Rattle.board_block.specs.Taken.{in_order?}
use Rattle.board_block.specs.declared.TakenPins.{TakenPins}
use Rattle.session_rules.specs.Refusal.{line, first_refusal}
use Rattle.session_laws.specs.Rising.{From}
use Rattle.words.specs.BoardWord.{row_word, taken_word, net_word, end_word, board_word}
use Rattle.words.specs.Inverse.{TakenFits, says_row, says_taken, says_net, says_end, says_nothing, says_board}
use Rattle.words.specs.declared.BoardEnd.{BoardEnd}
use Rattle.words.specs.declared.BoardWord.{BoardWord}
use Rattle.words.specs.declared.BoardWord.TheVariants as word
use Rattle.call_rules.specs.Result.{yes, unless}
use Rattle.call_rules.specs.Reading.{
  Listed,
  Parsed,
  is_row,
  is_unknown,
  not_above,
  not_after,
  some?,
  misplaced,
  bad_row,
  bad_count,
  word_lines,
  take,
  take_words,
  reverse,
}
use Rattle.board_roundtrip.specs.Parts.{nets_in, nets_then, said, Falling, PinsFit}
use Rattle.call_rules.proofs.Results.{yes_same, passed, line_passed}
use Rattle.board_roundtrip.specs.Pins.{order_more}

-- ── one word that was accepted ──
-- DEFINITION: what holds where the word at index i says x, and the list from it on was accepted
pub record Passes (i : ℕ) (t : Parsed) (x : BoardWord) (ws : List ℕ) (u : Parsed) : Type 0 where
  pub known : is_unknown x ≡ false
  pub placed : misplaced t x ≡ false
  pub before_end : t.ended ≡ false
  pub counted : bad_count t x ≡ false
  pub rest : take_words (suc i) (take i t x) ws ≡ yes u

pub passes : (w : ℕ) (ws : List ℕ) (i : ℕ) (t u : Parsed) (x : BoardWord) → board_word w ≡ x → take_words i t (w ∷ ws) ≡ yes u → Passes i t x ws u
unfolding take_words word_lines
passes w ws i t u x q e =
    let f : unless (first_refusal (word_lines i t x)) (take_words (suc i) (take i t x) ws) ≡ yes u = rw q at e in
    let k = passed (first_refusal (word_lines i t x)) (take_words (suc i) (take i t x) ws) u f in
    let is15 = line (bad_count t x) 15 i ∷ [] in
    let is14 = line (bad_row t x) 14 i ∷ is15 in
    let wrong = (eqb i 0 && not (is_row x)) || (misplaced t x || t.ended) in
    let l = line_passed (is_unknown x) 12 i (line wrong 13 i ∷ is14) k.0 in
    let m = line_passed wrong 13 i is14 l.1 in
    let n = line_passed (bad_row t x) 14 i is15 m.1 in
    let o = or_false (misplaced t x) t.ended (or_false (eqb i 0 && not (is_row x)) (misplaced t x || t.ended) m.0).1 in
    record { known = l.0; placed = o.0; before_end = o.1; counted = (line_passed (bad_count t x) 15 i [] n.1).0; rest = k.1 }

-- after the end word there is nothing
pub nothing_after : (ws : List ℕ) (i : ℕ) (t u : Parsed) → t.ended ≡ true → take_words i t ws ≡ yes u → (ws ≡ []) × (t ≡ u)
unfolding take_words
nothing_after [] i t u h e = (refl, yes_same t u (passed (first_refusal (line (not t.ended) 13 i ∷ [])) (yes t) u e).1)
nothing_after (w ∷ ws) i t u h e = absurd (clash h (passes w ws i t u (board_word w) refl e).before_end)

-- and a list does not end without one
pub no_end : (i : ℕ) (t u : Parsed) → t.ended ≡ false → take_words i t [] ≡ yes u → ⊥
unfolding take_words
no_end i t u h e =
    let k = passed (first_refusal (line (not t.ended) 13 i ∷ [])) (yes t) u e in
    clash (not-false t.ended (line_passed (not t.ended) 13 i [] k.0).0) h

-- ── all words ──
none_before : {A : Type 0} (xs : List A) → some? xs ≡ false → xs ≡ []
none_before [] e = refl
none_before (x ∷ xs) e = absurd (clash refl e)

-- the word of one more is the word that follows
word_last : {A : Type 0} (f : A → ℕ) (xs : List A) (x : A) (ws : List ℕ) → map f xs ++ (f x ∷ ws) ≡ map f (xs ++ (x ∷ [])) ++ ws
word_last f xs x ws = rw (map-append f xs (x ∷ []), append_assoc (map f xs) (f x ∷ []) ws) refl

-- a row word comes before any word of taken pins and any net word
said_row : (t : Parsed) (r : Row) (i : ℕ) (ws : List ℕ) → some? t.pins || some? t.nets ≡ false
    → said t (row_word r ∷ ws) ≡ said (take i t (word.Row r)) ws
said_row t r i ws e =
    let k = or_false (some? t.pins) (some? t.nets) e in
    rw (none_before t.pins k.0, none_before t.nets k.1) (word_last row_word t.rows r ws)

-- and a word of taken pins before any net word
said_pin : (t : Parsed) (p : TakenPins) (i : ℕ) (ws : List ℕ) → some? t.nets ≡ false
    → said t (taken_word p ∷ ws) ≡ said (take i t (word.Taken p)) ws
said_pin t p i ws e =
    rw (none_before t.nets e) (ap (λ (l : List ℕ). map row_word t.rows ++ l) (word_last taken_word t.pins p ws))

-- DEFINITION: what t holds with the words ws after it says what u holds with its end word; u's taken pins come in reading order and fit their words,
-- and the numbers of its nets rise
pub record Said (t : Parsed) (ws : List ℕ) (u : Parsed) : Type 0 where
  pub words : said t ws ≡ said u (end_word u.book (length u.rows) (length u.nets) ∷ [])
  pub ordered : in_order? u.pins ≡ true
  pub fit : PinsFit u.pins
  pub falling : Falling u.nets

said_more : (t : Parsed) (ws : List ℕ) (v : Parsed) (vs : List ℕ) (u : Parsed) → said t ws ≡ said v vs → Said v vs u → Said t ws u
said_more t ws v vs u e s = record { words = e ∙ s.words; ordered = s.ordered; fit = s.fit; falling = s.falling }

-- the end word is the last, its book is u's, and its counts are right
said_end : (t u : Parsed) (c : BoardEnd) (i : ℕ) (ws : List ℕ) → in_order? t.pins ≡ true → PinsFit t.pins → Falling t.nets
    → Passes i t (word.End c) ws u → Said t (end_word c.book c.rows c.nets ∷ ws) u
said_end t u c i ws o g f p =
    let k = nothing_after ws (suc i) (take i t (word.End c)) u refl p.rest in
    let m = and_true (eqb c.rows (length t.rows)) (eqb c.nets (length t.nets))
    (not-false (eqb c.rows (length t.rows) && eqb c.nets (length t.nets)) p.counted) in
    let a : c.rows ≡ length t.rows = eqb-true c.rows (length t.rows) m.0 in
    let b : c.nets ≡ length t.nets = eqb-true c.nets (length t.nets) m.1 in
    rw (k.0, ← k.1, a, b) (record { words = refl; ordered = o; fit = g; falling = f })

-- words that were accepted, from any place on
pub taken_said : (ws : List ℕ) (i : ℕ) (t u : Parsed) → t.ended ≡ false → in_order? t.pins ≡ true → PinsFit t.pins → Falling t.nets
    → take_words i t ws ≡ yes u → Said t ws u
taken_said [] i t u h o g f e = absurd (no_end i t u h e)
taken_said (w ∷ ws) i t u h o g f e = elim (says_board w) [
  | says_row r fits p q ↦
      let k = passes w ws i t u (word.Row r) q e in let v = take i t (word.Row r) in
      rw p (said_more t (row_word r ∷ ws) v ws u (said_row t r i ws k.placed) (taken_said ws (suc i) v u h o g f k.rest))
  | says_taken n fits p q ↦
      let k = passes w ws i t u (word.Taken n) q e in let v = take i t (word.Taken n) in
      let l = or_false (some? t.nets) (not_after n.vertex t.pins) k.placed in
      let s = taken_said ws (suc i) v u h (order_more t.pins n o l.1) (each_append TakenFits t.pins (n ∷ []) g (fits, tt)) f k.rest in
      rw p (said_more t (taken_word n ∷ ws) v ws u (said_pin t n i ws l.0) s)
  | says_net n fits p q ↦
      let k = passes w ws i t u (word.Net n) q e in let v = take i t (word.Net n) in
      rw p (said_more t (net_word n ∷ ws) v ws u refl (taken_said ws (suc i) v u h o g (k.placed, f) k.rest))
  | says_end c a b p q ↦ rw p (said_end t u c i ws o g f (passes w ws i t u (word.End c) q e))
  | says_nothing q ↦ absurd (clash refl (passes w ws i t u word.Unknown q e).known)
]

-- ── the nets, first to last ──
-- DEFINITION: the least number that may follow
abbrev next : List Listed → ℕ
next [] = 0
next (l ∷ ls) = suc l.net.number

next_least : (ls : List Listed) (k : ℕ) → not_above k ls ≡ false → next ls ≤ k
next_least [] k e = omega arith
next_least (l ∷ ls) k e = leb-false k l.net.number e

pub falling_from : (ls back : List Listed) → Falling ls → From (next ls) (nets_in back) → From 0 (nets_in (reverse ls back))
falling_from [] back f g = g
falling_from (l ∷ ls) back f g = falling_from ls (l ∷ back) f.1 (next_least ls l.net.number f.0, g)

pub then_reverse : (ls back : List Listed) (ws : List ℕ)
    → nets_then ls (map net_word (nets_in back) ++ ws) ≡ map net_word (nets_in (reverse ls back)) ++ ws
then_reverse [] back ws = refl
then_reverse (l ∷ ls) back ws = then_reverse ls (l ∷ back) ws

pub length_reverse : (ls back : List Listed) → length (nets_in (reverse ls back)) ≡ length ls + length (nets_in back)
length_reverse [] back = omega arith
length_reverse (l ∷ ls) back = omega (arith, length_reverse ls (l ∷ back))
