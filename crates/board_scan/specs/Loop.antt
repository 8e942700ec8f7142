-- The loop over the words: before word i the definition has still to take the words from i on.
-- Assumes nothing.
use Rattle.std.specs.Prelude as prelude
use Rattle.std.specs.Prelude.{◌≡◌, refl, Bool, true, false, not, cond, ◌||◌, List, [], ◌∷◌, ℕ, suc, ◌+◌, ◌<◌, ◌≤◌, ltb, eqb, length, drop, get_or}
use Rattle.std.proofs.Math.Option.{Option, none, some}
use Rattle.std.proofs.Common.{ap, sym, ◌∙◌, inl, inr, add-one, arith, drop-cons, ltb-false}
use Rattle.std.proofs.Math.Seq.{drop-length}
use Rattle.count.specs.TruthLaws.{bool, clash, or_right}
use Rattle.session_rules.specs.Refusal.{Refusal, refusal, line, first_refusal}
use Rattle.words.specs.BoardWord.{board_word}
use Rattle.words.specs.declared.BoardWord.{BoardWord}
use Rattle.words.specs.declared.BoardWord.TheVariants as word
use Rattle.call_rules.specs.Result.{no, yes, unless}
use Rattle.call_rules.specs.Reading.{board_limit, Parsed, nothing_parsed, word_lines, take, take_words, bad_length}
use Rattle.board_scan.specs.Refused.{fault_number}
use Rattle.board_scan.specs.Scan.{with_word, start}
use Rattle.board_scan.specs.Promise.{take_all, scan_for, ScanPromise}
use Rattle.board_scan.specs.OneWord.{one_word, word_same}
use Rattle.board_scan.specs.declared.Scan.{Scan}
use Rattle.board_scan.specs.declared.ScanRefusal.TheVariants.{BadLength, Word}
use Rattle.board_scan.specs.declared.WordFault.{WordFault}
use Rattle.board_scan.specs.declared.WordFault.TheVariants.{Misplaced}

-- DEFINITION: the scan s holds what the first i words say, at most a net each
pub record Here (ws : List ℕ) (i : ℕ) (s : Scan) : Type 0 where
  pub taken : Parsed
  pub rest : take_words 0 nothing_parsed ws ≡ take_words i taken (drop i ws)
  pub holds : s ≡ scan_for taken
  pub few : s.nets ≤ i

pub here_start : (ws : List ℕ) → Here ws 0 start
here_start ws = record { taken = nothing_parsed; rest = refl; holds = refl; few = omega arith }

-- ── one word further ──
refused_with : {A : Type 0} (o : Option Refusal) (a : A) (r : Refusal) → no r ≡ unless o (yes a) → o ≡ some r
refused_with none a r e = absurd (let z : ◌≡◌ {A = ℕ} 0 1 = cc in omega arith)
refused_with (some q) a r e = cc

taken_as : {A : Type 0} (o : Option Refusal) (a b : A) → yes b ≡ unless o (yes a) → (o ≡ none) × (b ≡ a)
taken_as none a b e = (refl, cc)
taken_as (some q) a b e = absurd (let z : ◌≡◌ {A = ℕ} 0 1 = cc in omega arith)

-- a word adds at most one net
take_nets : (i : ℕ) (t : Parsed) (w : BoardWord) → (scan_for (take i t w)).nets ≤ (scan_for t).nets + 1
take_nets i t (word.Row r) = omega arith
take_nets i t (word.Taken p) = omega arith
take_nets i t (word.Net n) = omega arith
take_nets i t (word.End c) = omega arith
take_nets i t word.Unknown = omega arith

module _ (ws : List ℕ) (i : ℕ) (s : Scan) (h : i < length ws) (H : Here ws i s) where
  here-next : take_words 0 nothing_parsed ws
      ≡ unless (first_refusal (word_lines i H.taken (board_word (get_or ws i 0))))
      (take_words (suc i) (take i H.taken (board_word (get_or ws i 0))) (drop (suc i) ws))
  unfolding take_words
  here-next = H.rest ∙ rw (drop-cons ws i 0 h) refl

  here-word : one_word i (with_word s (eqb i 0) (board_word (get_or ws i 0)))
      ≡ unless (first_refusal (word_lines i H.taken (board_word (get_or ws i 0)))) (yes (scan_for (take i H.taken (board_word (get_or ws i 0)))))
  here-word = rw H.holds (word_same H.taken i (board_word (get_or ws i 0)))

  pub here-refused : (f : WordFault) → with_word s (eqb i 0) (board_word (get_or ws i 0)) ≡ prelude.Err f
      → take_words 0 nothing_parsed ws ≡ no (refusal (fault_number f) i)
  here-refused f e =
      let q = refused_with (first_refusal (word_lines i H.taken (board_word (get_or ws i 0)))) _ (refusal (fault_number f) i)
      (sym (ap (one_word i) e) ∙ here-word) in
      here-next ∙ rw q refl

  pub here-more : (u : Scan) → with_word s (eqb i 0) (board_word (get_or ws i 0)) ≡ prelude.Ok u → Here ws (i + 1) u
  here-more u e =
      let w = board_word (get_or ws i 0) in
      let q = taken_as (first_refusal (word_lines i H.taken w)) (scan_for (take i H.taken w)) u (sym (ap (one_word i) e) ∙ here-word) in
      rw add-one (record {
        taken = take i H.taken w;
        rest = here-next ∙ rw q.0 refl;
        holds = q.1;
        few = omega (arith, H.few, ap (λ (x : Scan). x.nets) q.1, ap (λ (x : Scan). x.nets) H.holds, take_nets i H.taken w);
      })

-- ── after the last word ──
here_last : (ws : List ℕ) (s : Scan) (H : Here ws (length ws) s)
    → take_words 0 nothing_parsed ws ≡ unless (first_refusal (line (not s.ended) 13 (length ws) ∷ [])) (yes H.taken)
unfolding take_words
here_last ws s H = H.rest ∙ rw (drop-length ws, H.holds) refl

-- ── the length ──
all_taken : (ws : List ℕ) → bad_length ws ≡ false → take_all ws ≡ take_words 0 nothing_parsed ws
all_taken ws e = rw e refl

pub length_small : (n : ℕ) → eqb n 0 || ltb board_limit n ≡ false → n ≤ board_limit
length_small n e = elim (bool (ltb board_limit n)) [
  | inl h ↦ absurd (clash (or_right (eqb n 0) (ltb board_limit n) h) e)
  | inr h ↦ ltb-false board_limit n h
]

-- ── what is handed back ──
module _ (ws : List ℕ) where
  -- 11
  pub promise-length : bad_length ws ≡ true → ScanPromise ws (prelude.Err BadLength)
  promise-length b = rw b refl

  module _ (good : bad_length ws ≡ false) where
    -- a fault of word i
    pub promise-fault : (i : ℕ) (s : Scan) (f : WordFault) → i < length ws → Here ws i s
        → with_word s (eqb i 0) (board_word (get_or ws i 0)) ≡ prelude.Err f → ScanPromise ws (prelude.Err (Word f i))
    promise-fault i s f h H e = rw (all_taken ws good ∙ here-refused ws i s h H f e) refl

    -- no end word has been
    pub promise-open : (s : Scan) → Here ws (length ws) s → s.ended ≡ false → ScanPromise ws (prelude.Err (Word Misplaced (length ws)))
    promise-open s H f =
        let y : take_all ws ≡ no (refusal 13 (length ws)) = all_taken ws good ∙ (here_last ws s H ∙ rw f refl) in
        rw y refl

    pub promise-taken : (s : Scan) → Here ws (length ws) s → s.ended ≡ true → ScanPromise ws (prelude.Ok s)
    promise-taken s H f =
        let y : take_all ws ≡ yes H.taken = all_taken ws good ∙ (here_last ws s H ∙ rw f refl) in
        rw y (ap yes H.holds)
