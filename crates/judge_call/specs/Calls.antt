-- Judging a session in its parts: the soundness of the session, and then the judge's verdict on its board and nets.
-- Assumes nothing.
use Rattle.std.specs.Prelude as rust
use Rattle.std.specs.Prelude.{Err, ◌≡◌, false, List, ℕ, ◌<◌, eqb, length}
use Rattle.std.proofs.Math.Path.{refl}
use Rattle.std.proofs.Common.{sym, ◌∙◌, arith}
use Rattle.std.proofs.Math.Bool.{true}
use Rattle.std.proofs.Math.Dec.{ltb}
use borrow.Author.Tests.{lt-ltb}
use Rattle.count.specs.TruthLaws.{or_right}
use Rattle.session_rules.specs.Refusal.{refusal}
use Rattle.session_rules.specs.Session.{Session}
use Rattle.session_rules.specs.Sound.{sound?}
use Rattle.words.specs.Bytes.{words_in, uneven}
use Rattle.call_rules.specs.Result.{no}
use Rattle.call_rules.specs.Shape.{bad_count}
use Rattle.call_rules.specs.Judge.{judged, judge_words, compare_words, judge_bytes}
use Rattle.words_bytes.specs.Words.{FilledAll}
use Rattle.words_bytes.specs.WordsLaws.{told-uneven, told-long}
use Rattle.words_bytes.specs.declared.FillError.{FillError}
use Rattle.words_bytes.specs.declared.FillError.TheVariants.{Uneven, Long}
use Rattle.judge_list.specs.Verdicts.{verdict_on, comparison_on}
use Rattle.judge_call.specs.Answers.{unfilled, judge_refusal}

module _ (s : Session) where
  pub judge-unsound : (ws : List ℕ) → sound? s ≡ false → judge_words s ws ≡ no (refusal 20 0)
  unfolding judge_words
  judge-unsound ws e = rw e refl

  pub judge-sound : (ws : List ℕ) → sound? s ≡ true → judge_words s ws ≡ verdict_on s.block.board s.nets ws
  unfolding judge_words judged
  judge-sound ws e = rw e refl

  pub compare-unsound : (vs ws : List ℕ) → sound? s ≡ false → compare_words s vs ws ≡ no (refusal 20 0)
  unfolding compare_words
  compare-unsound vs ws e = rw e refl

  pub compare-sound : (vs ws : List ℕ) → sound? s ≡ true → compare_words s vs ws ≡ comparison_on s.block.board s.nets vs ws
  unfolding compare_words judged
  compare-sound vs ws e = rw e refl

  -- ── from bytes ──
  pub bytes-unsound : (bs : List ℕ) → sound? s ≡ false → judge_bytes s bs ≡ no (refusal 20 0)
  unfolding judge_bytes
  bytes-unsound bs e = rw e refl

  pub bytes-uneven : (bs : List ℕ) → sound? s ≡ true → uneven bs ≡ true → judge_bytes s bs ≡ no (refusal 10 0)
  unfolding judge_bytes
  bytes-uneven bs e h = rw (e, h) refl

  pub bytes_even : (bs : List ℕ) → sound? s ≡ true → uneven bs ≡ false → judge_bytes s bs ≡ judge_words s (words_in bs)
  unfolding judge_bytes judge_words
  bytes_even bs e h = rw (e, h) refl

  pub bytes-long : (bs : List ℕ) → sound? s ≡ true → uneven bs ≡ false → 2049 < length (words_in bs) → judge_bytes s bs ≡ no (refusal 41 0)
  unfolding judge_words judged
  bytes-long bs e h k =
      let l : ltb 2049 (length (words_in bs)) ≡ true = lt-ltb 2049 (length (words_in bs)) k in
      let b : bad_count (words_in bs) ≡ true = or_right (eqb (length (words_in bs)) 0) (ltb 2049 (length (words_in bs))) l in
      bytes_even bs e h ∙ rw (e, b) refl

  -- bytes whose words do not fill a list of so many words
  pub bytes-unfilled : (bs : List ℕ) {before after : List ℕ} {r : rust.Result ℕ FillError} (f : FillError) → sound? s ≡ true
      → FilledAll bs before after r → length before ≡ 2049 → r ≡ Err f → no (judge_refusal (unfilled f)) ≡ judge_bytes s bs
  bytes-unfilled bs Uneven e F l h = sym (bytes-uneven bs e (told-uneven F h))
  bytes-unfilled bs Long e F l h = let (even, long) = told-long F h in sym (bytes-long bs e even (omega (arith, long, l)))
