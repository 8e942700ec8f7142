-- Words and bytes: words below 2 ^ 32 come back from their bytes, bytes in whole groups of four from their words, and the words of a sound
-- session are below 2 ^ 32.
-- Assumes just these limits.
use Rattle.std.specs.Prelude.{◌≡◌, refl, List, [], ◌∷◌, ◌++◌, map, ℕ, ◌+◌, ◌*◌, ◌/◌, ◌%◌, ◌^◌, ◌<◌, eqb, leb, length}
use Rattle.std.proofs.Common.{arith, leb-true, eqb-true, eq-eqb}
use Rattle.std.proofs.lemmas.Bool.{not-false}
use Rattle.count.specs.TruthLaws.{and_true}
use Rattle.count.specs.Each.{each_append}
use Rattle.board.specs.declared.Row.{Row}
use Rattle.board_block.specs.declared.TakenPins.{TakenPins}
use Rattle.net.specs.declared.Net.{Net}
use Rattle.session_rules.specs.Refusal.{line, first_refusal}
use Rattle.session_rules.specs.Session.{Session}
use Rattle.session_rules.specs.Sound.{Sound}
use Rattle.session_laws.proofs.Stays.{sound_fine}
use Rattle.words.specs.BoardWord.{row_word, taken_word, net_word, end_word}
use Rattle.words.specs.Bytes.{words_in, uneven, bytes_of}
use Rattle.words.specs.Inverse.{book_small}
use Rattle.call_rules.specs.Result.{yes}
use Rattle.call_rules.specs.Reading.{read_words, read_bytes}
use Rattle.call_rules.specs.Writing.{board_words}
use Rattle.board_roundtrip.specs.Parts.{RowsFit, PinsFit, NetsFit, Words, Bytes}
use Rattle.call_rules.proofs.Results.{passed, line_passed}
use Rattle.session_laws.proofs.Few.{few_nets}
use Rattle.board_roundtrip.specs.Fits.{rows-fit, pins_fit, nets_fit}

-- ── from words to bytes and back ──
-- the lowest byte, and the others
low_byte : (x a y : ℕ) → a < 2 ^ 8 → x ≡ a + y * 2 ^ 8 → (x % 2 ^ 8 ≡ a) × (x / 2 ^ 8 ≡ y)
low_byte x a y h e = (omega arith, omega arith)

four_bytes : (a b c d x y w : ℕ) → c + d * 2 ^ 8 ≡ x → b + x * 2 ^ 8 ≡ y → a + y * 2 ^ 8 ≡ w → a + b * 2 ^ 8 + c * 2 ^ 16 + d * 2 ^ 24 ≡ w
four_bytes a b c d x y w e f g = omega arith

pub words_back : (ws : List ℕ) → Words ws → words_in (bytes_of ws) ≡ ws
unfolding words_in bytes_of
words_back [] h = refl
words_back (w ∷ ws) h =
    let l = h.0 in
    let p : w / 2 ^ 16 ≡ w / 2 ^ 8 / 2 ^ 8 = omega arith in
    let q : w / 2 ^ 24 ≡ w / 2 ^ 16 / 2 ^ 8 = omega arith in
    let r : w / 2 ^ 24 % 2 ^ 8 ≡ w / 2 ^ 24 = omega arith in
    let e = four_bytes (w % 2 ^ 8) (w / 2 ^ 8 % 2 ^ 8) (w / 2 ^ 16 % 2 ^ 8) (w / 2 ^ 24 % 2 ^ 8) (w / 2 ^ 16) (w / 2 ^ 8) w
    (omega arith) (omega arith) (omega arith) in
    rw (e, words_back ws h.1) refl

pub bytes_even : (ws : List ℕ) → length (bytes_of ws) % 4 ≡ 0
unfolding bytes_of
bytes_even [] = refl
bytes_even (w ∷ ws) = omega (arith, bytes_even ws)

pub bytes_back : (bs : List ℕ) → Bytes bs → length bs % 4 ≡ 0 → bytes_of (words_in bs) ≡ bs
unfolding words_in bytes_of
bytes_back [] h e = refl
bytes_back (a ∷ []) h e = absurd (omega arith)
bytes_back (a ∷ (b ∷ [])) h e = absurd (omega arith)
bytes_back (a ∷ (b ∷ (c ∷ []))) h e = absurd (omega arith)
bytes_back (a ∷ (b ∷ (c ∷ (d ∷ bs)))) (i, (j, (k, (l, h)))) e =
    let w = a + b * 2 ^ 8 + c * 2 ^ 16 + d * 2 ^ 24 in
    let p = low_byte w a (b + c * 2 ^ 8 + d * 2 ^ 16) i (omega arith) in
    let q = low_byte (w / 2 ^ 8) b (c + d * 2 ^ 8) j (omega (arith, p.1)) in
    let x : w / 2 ^ 16 ≡ c + d * 2 ^ 8 = omega arith in
    let r = low_byte (w / 2 ^ 16) c d k x in
    let s : w / 2 ^ 24 % 2 ^ 8 ≡ d = omega arith in
    rw (p.0, q.0, r.0, s, bytes_back bs h (omega arith)) refl

-- ── the words of a sound session ──
row-words : (rs : List Row) → RowsFit rs → Words (map row_word rs)
row-words [] f = tt
row-words (r ∷ rs) f = let k = f.0 in (omega arith, row-words rs f.1)

pin_words : (ts : List TakenPins) → PinsFit ts → Words (map taken_word ts)
pin_words [] f = tt
pin_words (t ∷ ts) f =
    let k = f.0.1 in
    let m = leb-true t.count 2 (and_true (leb 1 t.count) (leb t.count 2) f.0.0).1 in
    (omega arith, pin_words ts f.1)

net-words : (ns : List Net) → NetsFit ns → Words (map net_word ns)
net-words [] f = tt
net-words (n ∷ ns) f = let k = f.0 in (omega arith, net-words ns f.1)

pub sound_words : (s : Session) → Sound s → Words (board_words s)
unfolding board_words
sound_words s h =
    let rs = s.block.board.rows in let ts = s.block.taken in let ns = s.nets in let f = sound_fine s h in let w = h.within in
    let most = w.few in let few = few_nets s.block ns f.rising f.good in
    let word : ℕ → Type 0 = λ (x : ℕ). x < 2 ^ 32 in let end = end_word s.block.book (length rs) (length ns) ∷ [] in
    let book = book_small s.block.book in
    each_append word (map row_word rs) (map taken_word ts ++ (map net_word ns ++ end)) (row-words rs (rows-fit s.block.board w))
    (each_append word (map taken_word ts) (map net_word ns ++ end) (pin_words ts (pins_fit s.block w h.taken))
    (each_append word (map net_word ns) end (net-words ns (nets_fit s.block ns w f.good)) (omega arith, tt)))

-- ── reading bytes is reading their words ──
pub even_read : (bs : List ℕ) → length bs % 4 ≡ 0 → read_bytes bs ≡ read_words (words_in bs)
unfolding read_bytes
even_read bs e = rw (eq-eqb (length bs % 4) 0 e) refl

pub read_even : (bs : List ℕ) (s : Session) → read_bytes bs ≡ yes s → (length bs % 4 ≡ 0) × (read_words (words_in bs) ≡ yes s)
unfolding read_bytes
read_even bs s e =
    let p = passed (first_refusal (line (uneven bs) 10 0 ∷ [])) (read_words (words_in bs)) s e in
    let n = (line_passed (uneven bs) 10 0 [] p.0).0 in
    (eqb-true (length bs % 4) 0 (not-false (eqb (length bs % 4) 0) n), p.1)
