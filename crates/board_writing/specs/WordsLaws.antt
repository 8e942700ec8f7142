-- One row's or place's words more; and all of them are the words of the documents' board, taken pins and nets.
-- Assumes nothing.
use Rattle.std.specs.Prelude.{◌≡◌, refl, List, [], ◌∷◌, ◌++◌, map, ℕ, zero, suc, ◌+◌, ◌<◌, ◌≤◌, length, get_or, take, drop, None, Some}
use Rattle.std.proofs.Common.{ap, add-one, arith, length-append, length-take, take-suc, drop-cons}
use Rattle.std.proofs.lemmas.List.{map-append}
use Rattle.std.proofs.Math.Seq.{take-length, drop-length}
use Rattle.count.specs.Lists.{rising, rising_snoc, length-rising}
use Rattle.board.specs.Board.{no_row}
use Rattle.board.specs.View.{board_of}
use Rattle.board.specs.declared.Row.{Row}
use Rattle.board.specs.declared.Board as code
use Rattle.board_block.specs.View.{vertex_at, taken_then, taken_from}
use Rattle.board_block.specs.declared.TakenPins.{TakenPins}
use Rattle.net.specs.View.{Held, nothing}
use Rattle.net.specs.declared.Net.{Net}
use Rattle.net_places.specs.Places.{held_net, nets_from, nets_of}
use Rattle.words.specs.BoardWord.{row_word, taken_word, net_word}
use Rattle.board_writing.specs.Words.{row_words, pin_word, pin_words_from, net_words, held_word}

pub row_words_length : (rs : List Row) (n : ℕ) → length (row_words rs n) ≡ n
unfolding row_words
row_words_length rs n = length-rising (λ i. row_word (get_or rs i no_row)) 0 n

pub row_words_more : (rs : List Row) (n : ℕ) → row_words rs (n + 1) ≡ row_words rs n ++ (row_word (get_or rs n no_row) ∷ [])
unfolding row_words
row_words_more rs n =
    let e : 0 + n ≡ n = omega arith in
    rw (add-one n) (rw e at (rising_snoc (λ i. row_word (get_or rs i no_row)) 0 n))

row_words_from : (rs : List Row) (i n : ℕ) → map (λ k. row_word (get_or rs k no_row)) (rising i n) ≡ map row_word (map (λ k. get_or rs k no_row) (rising i n))
row_words_from rs i zero = refl
row_words_from rs i (suc n) = ap (λ (ws : List ℕ). row_word (get_or rs i no_row) ∷ ws) (row_words_from rs (suc i) n)

-- all of them are the board's
pub row_words_all : (b : code.Board) → row_words b.rows b.count ≡ map row_word (board_of b).rows
unfolding row_words board_of
row_words_all b = row_words_from b.rows 0 b.count

-- ── the pins taken at place i and at those after it, and their words ──
pub pin-word : (i k : ℕ) → (k ≡ 0 → ⊥) → pin_word i k ≡ taken_word (record { vertex = vertex_at i; count = k }) ∷ []
pin-word i zero h = absurd (h refl)
pin-word i (suc k) h = refl

pub pin_words_next : (a : List ℕ) (i : ℕ) → i < length a → pin_words_from a i ≡ pin_word i (get_or a i 0) ++ pin_words_from a (i + 1)
unfolding pin_words_from taken_from
pin_words_next a i h = rw (add-one i, drop-cons a i 0 h) (pin-then (get_or a i 0) (taken_from (suc i) (drop (suc i) a)))
  where
    pin-then : (k : ℕ) (ts : List TakenPins) → map taken_word (taken_then (vertex_at i) k ts) ≡ pin_word i k ++ map taken_word ts
    pin-then zero ts = refl
    pin-then (suc k) ts = refl

pub pin_words_none : (a : List ℕ) → pin_words_from a (length a) ≡ []
unfolding pin_words_from taken_from
pin_words_none a = rw (drop-length a) refl

-- ── the nets of the first n places, and their words ──
snoc_from : (k : ℕ) (ps : List Held) (p : Held) → nets_from k (ps ++ (p ∷ [])) ≡ nets_from k ps ++ held_net (k + length ps) p []
unfolding nets_from
snoc_from k [] p = let e : k + 0 ≡ k = omega arith in rw e refl
snoc_from k (q ∷ ps) p =
    let e : k + suc (length ps) ≡ suc k + length ps = omega arith in
    rw (e, snoc_from (suc k) ps p) (held-append k q (nets_from (suc k) ps) (held_net (suc k + length ps) p []))
  where
    held-append : (k : ℕ) (h : Held) (xs ys : List Net) → held_net k h (xs ++ ys) ≡ held_net k h xs ++ ys
    held-append k None xs ys = refl
    held-append k (Some e) xs ys = refl

held-word : (k : ℕ) (h : Held) → map net_word (held_net k h []) ≡ held_word k h
held-word k None = refl
held-word k (Some e) = refl

pub net_words_more : (ps : List Held) (n : ℕ) → n < length ps → net_words ps (n + 1) ≡ net_words ps n ++ held_word (n + 1) (get_or ps n nothing)
unfolding net_words nets_of
net_words_more ps n h =
    let l : 1 + length (take n ps) ≡ suc n = omega (arith, length-take n ps) in
    rw (
      add-one n,
      take-suc ps n nothing h,
      snoc_from 1 (take n ps) (get_or ps n nothing),
      l,
      map-append net_word (nets_from 1 (take n ps)) (held_net (suc n) (get_or ps n nothing) []),
    )
    (ap (λ (ws : List ℕ). map net_word (nets_from 1 (take n ps)) ++ ws) (held-word (suc n) (get_or ps n nothing)))

held_word_le : (k : ℕ) (h : Held) → length (held_word k h) ≤ 1
held_word_le k None = omega arith
held_word_le k (Some e) = omega arith

pub net_words_le : (ps : List Held) (n : ℕ) → n ≤ length ps → length (net_words ps n) ≤ n
unfolding net_words nets_of nets_from
net_words_le ps zero h = omega arith
net_words_le ps (suc n) h =
    let e = rw add-one at (net_words_more ps n (omega arith)) in
    omega (
      arith,
      ap length e,
      length-append (net_words ps n) (held_word (suc n) (get_or ps n nothing)),
      held_word_le (suc n) (get_or ps n nothing),
      net_words_le ps n (omega arith),
    )

pub net_words_all : (ps : List Held) → net_words ps (length ps) ≡ map net_word (nets_of ps)
unfolding net_words
net_words_all ps = rw (take-length ps) refl
