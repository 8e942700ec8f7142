-- The words of a list of bytes, filled into a buffer one by one.
-- Assumes nothing.
use Rattle.std.specs.Prelude.{Result, Ok, Err, ◌≡◌, refl, true, false, List, [], ◌∷◌, ◌++◌, ℕ, zero, suc, ◌+◌, ◌*◌, ◌/◌, ◌%◌, ◌≤◌, ◌<◌, length, get_or, set, take, drop}
use Rattle.std.proofs.Common.{ap, sym, ◌∙◌, append_assoc, add-one, arith, length-append, length-drop, take-suc, take_all, take_at, drop-cons, length-take-le, eq-eqb, ne_eqb}
use Rattle.std.proofs.lemmas.List.{set_at}
use Rattle.words.specs.Bytes.{words_in, uneven}
use Rattle.words_bytes.specs.Words.{word_at, FilledWith, FilledAll}
use Rattle.words_bytes.specs.declared.FillError.{FillError}
use Rattle.words_bytes.specs.declared.FillError.TheVariants.{Uneven, Long}

pub words_length : (bs : List ℕ) → length (words_in bs) ≡ length bs / 4
unfolding words_in
words_length [] = refl
words_length (a ∷ []) = refl
words_length (a ∷ (b ∷ [])) = refl
words_length (a ∷ (b ∷ (c ∷ []))) = refl
words_length (a ∷ (b ∷ (c ∷ (d ∷ rest)))) = omega (arith, words_length rest)

pub word_of : (bs : List ℕ) (k : ℕ) → 4 * k + 3 < length bs → get_or (words_in bs) k 0 ≡ word_at bs (4 * k)
unfolding words_in
word_of [] k h = absurd (omega arith)
word_of (a ∷ []) k h = absurd (omega arith)
word_of (a ∷ (b ∷ [])) k h = absurd (omega arith)
word_of (a ∷ (b ∷ (c ∷ []))) k h = absurd (omega arith)
word_of (a ∷ (b ∷ (c ∷ (d ∷ rest)))) zero h = refl
word_of (a ∷ (b ∷ (c ∷ (d ∷ rest)))) (suc k) h =
    let e : 4 * suc k ≡ suc (suc (suc (suc (4 * k)))) = omega arith in
    let f : suc (suc (suc (suc (4 * k)))) + 1 ≡ suc (suc (suc (suc (4 * k + 1)))) = omega arith in
    let g : suc (suc (suc (suc (4 * k)))) + 2 ≡ suc (suc (suc (suc (4 * k + 2)))) = omega arith in
    let i : suc (suc (suc (suc (4 * k)))) + 3 ≡ suc (suc (suc (suc (4 * k + 3)))) = omega arith in
    rw (e, f, g, i) (word_of rest k (omega arith))

-- one word more in the buffer
pub fill_next : (bs out before : List ℕ) (i : ℕ) → 4 * i + 3 < length bs → i < length before → out ≡ take i (words_in bs) ++ drop i before
    → set out i (word_at bs (4 * i)) ≡ take (i + 1) (words_in bs) ++ drop (i + 1) before
fill_next bs out before i h k e =
    let l : i < length (words_in bs) = omega (arith, words_length bs) in
    let m : length (take i (words_in bs)) ≡ i = length-take-le i (words_in bs) (omega arith) in
    rw (
      e,
      add-one i,
      take-suc (words_in bs) i 0 l,
      drop-cons before i 0 k,
      word_of bs i h,
      append_assoc (take i (words_in bs)) (word_at bs (4 * i) ∷ []) (drop (suc i) before),
    )
    (set_at (take i (words_in bs)) (get_or before i 0) (drop (suc i) before) (word_at bs (4 * i)) i m)

pub filled_length : (bs out before : List ℕ) (i : ℕ) → 4 * i ≤ length bs → i ≤ length before → out ≡ take i (words_in bs) ++ drop i before
    → length out ≡ length before
filled_length bs out before i h k e =
    let m : length (take i (words_in bs)) ≡ i = length-take-le i (words_in bs) (omega (arith, words_length bs)) in
    omega (arith, ap length e, length-append (take i (words_in bs)) (drop i before), length-drop i before)

-- ── whole words ──
pub uneven_bytes : (bs : List ℕ) → (length bs % 4 ≡ 0 → ⊥) → uneven bs ≡ true
uneven_bytes bs h = rw (ne_eqb (length bs % 4) 0 h) refl

pub even_bytes : (bs : List ℕ) → length bs % 4 ≡ 0 → uneven bs ≡ false
even_bytes bs h = rw (eq-eqb (length bs % 4) 0 h) refl

-- where n is the count of the words, they are all in the buffer
pub all_filled : (bs before after : List ℕ) (n : ℕ) → n ≡ length (words_in bs) → FilledWith bs n before after → after ≡ words_in bs ++ drop n before
all_filled bs before after n e F = F.buffer ∙ ap (λ (l : List ℕ). l ++ drop n before) (take_all n (words_in bs) (omega arith))

-- ── what `fill_all` tells ──
-- DEFINITION: the first n words of the buffer are all that the bytes make, and these are whole words
pub record Whole (bs : List ℕ) (n : ℕ) (after : List ℕ) : Type 0 where
  pub even : uneven bs ≡ false
  pub room : n ≤ length after
  pub count : n ≡ length (take n after)
  pub words : take n after ≡ words_in bs

module _ {bs before after : List ℕ} {r : Result ℕ FillError} (F : FilledAll bs before after r) where
  pub told-uneven : r ≡ Err Uneven → uneven bs ≡ true
  told-uneven e = let q = rw e at F.tells in q.0

  pub told-long : r ≡ Err Long → (uneven bs ≡ false) × (length before < length (words_in bs))
  told-long e = let q = rw e at F.tells in (q.0, q.1)

  pub told-words : {n : ℕ} → r ≡ Ok n → Whole bs n after
  told-words {n} e =
      let q = rw e at F.tells in
      let l : length (words_in bs) ≡ n = sym q.1 in
      let t : take n after ≡ words_in bs = rw q.3 (take_at (words_in bs) (drop n before) n l) in
      record {
        even = q.0;
        room = omega (arith, ap length q.3, length-append (words_in bs) (drop n before), l);
        count = omega (arith, ap length t, l);
        words = t;
      }
