-- Definitions only: the word at an index of a list of bytes, and a buffer filled with the first n words, or with all. Nothing is proved here.
use Rattle.std.specs.Prelude.{Result, Ok, Err, ◌≡◌, true, false, List, ◌++◌, ℕ, ◌+◌, ◌*◌, ◌^◌, ◌<◌, ◌≤◌, length, get_or, take, drop}
use Rattle.words.specs.Bytes.{words_in, uneven}
use Rattle.words_bytes.specs.declared.FillError.{FillError}
use Rattle.words_bytes.specs.declared.FillError.TheVariants.{Uneven, Long}

-- the word of the four bytes from index i on, lowest first
abbrev pub word_at : List ℕ → ℕ → ℕ
word_at bs i = get_or bs i 0 + get_or bs (i + 1) 0 * 2 ^ 8 + get_or bs (i + 2) 0 * 2 ^ 16 + get_or bs (i + 3) 0 * 2 ^ 24

-- the buffer has the first n words of the bytes at its start, and the rest as it was
pub record FilledWith (bs : List ℕ) (n : ℕ) (before after : List ℕ) : Type 0 where
  pub buffer : after ≡ take n (words_in bs) ++ drop n before
  pub size : length after ≡ length before

-- all words of the bytes: they stand at the buffer's start, and the rest is as it was; or the whole buffer is, where the bytes are not whole words or
-- there is too little room
abbrev pub FilledAs : (bs before after : List ℕ) → Result ℕ FillError → Type 0
FilledAs bs before after (Ok n) =
    (uneven bs ≡ false) × (n ≡ length (words_in bs)) × (n ≤ length before) × (after ≡ words_in bs ++ drop n before)
FilledAs bs before after (Err Uneven) = (uneven bs ≡ true) × (after ≡ before)
FilledAs bs before after (Err Long) = (uneven bs ≡ false) × (length before < length (words_in bs)) × (after ≡ before)

-- what `fill_all` promises of its answer r
pub record FilledAll (bs before after : List ℕ) (r : Result ℕ FillError) : Type 0 where
  pub tells : FilledAs bs before after r
