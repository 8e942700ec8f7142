-- The words of rows, taken pins, nets and end make up the definition's; and so does the whole call.
-- Assumes nothing.
use Rattle.std.specs.Prelude.{◌≡◌, refl, true, false, List, [], ◌∷◌, ◌++◌, map, ℕ, ◌+◌, ◌-◌, ◌≤◌, ◌<◌, length, set, Ok, Err}
use Rattle.std.proofs.Common.{ap, ◌∙◌, append_assoc, arith, length-append, lt-ltb, le-ltb}
use Rattle.std.proofs.lemmas.List.{length-map}
use Rattle.board.specs.ViewLaws.{height_of}
use Rattle.board_block.specs.View.{taken_of}
use Rattle.session_rules.specs.Refusal.{refusal}
use Rattle.session_rules.specs.Session.{Session}
use Rattle.session_rules.specs.Sound.{sound?}
use Rattle.net_places.specs.Places.{nets_of}
use Rattle.session.specs.View.{session_of}
use Rattle.session.specs.declared.Session as code
use Rattle.words.specs.BoardWord.{taken_word, net_word, end_word}
use Rattle.call_rules.specs.Result.{no, yes}
use Rattle.call_rules.specs.Reading.{board_limit}
use Rattle.call_rules.specs.Writing.{board_words, written_into, write_board}
use Rattle.call_rules.proofs.WritingLaws.{store_next}
use Rattle.board_writing.specs.Buffer.{Continues}
use Rattle.board_writing.specs.BufferLaws.{continues_more}
use Rattle.board_writing.specs.Words.{row_words, net_words}
use Rattle.board_writing.specs.WordsLaws.{row_words_length, row_words_all, net_words_all, net_words_le}
use Rattle.board_writing.specs.Promise.{WritePromise, WrittenWords}
use Rattle.board_writing.specs.declared.WriteRefusal.TheVariants.{Unsound, ShortBuffer}

-- ── rows, taken pins, nets and end ──
parts : (s : code.Session) → length s.nets ≡ 64
    → board_words (session_of s) ≡ (row_words s.block.board.rows s.block.board.count
    ++ (map taken_word (taken_of s.block.taken) ++ net_words s.nets 64))
    ++ (end_word s.block.book s.block.board.count (length (net_words s.nets 64)) ∷ [])
unfolding board_words
parts s e =
    let n : net_words s.nets 64 ≡ map net_word (nets_of s.nets) = rw e at (net_words_all s.nets) in
    let l : length (net_words s.nets 64) ≡ length (nets_of s.nets) = ap length n ∙ length-map (nets_of s.nets) net_word in
    rw (← row_words_all s.block.board, ← n, height_of s.block.board, ← l) (simp append_assoc)

pub all_written : (s : code.Session) (before rowed pinned after : List ℕ) (rows from at w : ℕ) → length s.nets ≡ 64
    → s.block.board.count ≤ 31 → length (taken_of s.block.taken) ≤ 128 → board_limit ≤ length before → rows ≡ s.block.board.count
    → rowed ≡ written_into before (row_words s.block.board.rows s.block.board.count)
    → Continues (map taken_word (taken_of s.block.taken)) rowed pinned rows from
    → Continues (net_words s.nets 64) pinned after from at
    → w ≡ end_word s.block.book s.block.board.count (at - from)
    → WrittenWords (board_words (session_of s)) before (set after at w) (at + 1)
all_written s before rowed pinned after rows from at w e h t r q m C D f =
    let R = row_words s.block.board.rows s.block.board.count in
    let T = map taken_word (taken_of s.block.taken) in let N = net_words s.nets 64 in
    let B = continues_more T N rowed pinned after rows from at C D in
    let lr : length R ≡ s.block.board.count = row_words_length s.block.board.rows s.block.board.count in
    let lt : length T ≤ 128 = omega (arith, length-map (taken_of s.block.taken) taken_word) in
    let ln : length N ≤ 64 = net_words_le s.nets 64 (omega arith) in
    let i : at ≡ from + length N = D.index in
    let j : from ≡ rows + length T = C.index in
    let c : at - from ≡ length N = omega arith in
    let b : after ≡ written_into before (R ++ (T ++ N)) = B.buffer R before (omega arith) m in
    let l : length (R ++ (T ++ N)) ≡ at = omega (arith, length-append R (T ++ N), length-append T N) in
    let x : w ≡ end_word s.block.book s.block.board.count (length N) = rw c at f in
    rw (parts s e) (record {
      count = omega (arith, length-append (R ++ (T ++ N)) (end_word s.block.book s.block.board.count (length N) ∷ []));
      buffer = rw x (store_next (R ++ (T ++ N)) after before at (end_word s.block.book s.block.board.count (length N)) l (omega arith) b);
    })

-- ── the whole call ──
pub unsound_write : (s : Session) (before : List ℕ) → sound? s ≡ false → WritePromise s before (Err Unsound) before
unfolding write_board
unsound_write s before e =
    let x : write_board s (length before) ≡ no (refusal 20 0) = rw e refl in
    record { answers = rw x refl; buffer = rw x refl }

pub short_write : (s : Session) (before : List ℕ) → sound? s ≡ true → length before < board_limit → WritePromise s before (Err ShortBuffer) before
unfolding write_board
short_write s before e h =
    let x : write_board s (length before) ≡ no (refusal 18 0) = rw (e, lt-ltb (length before) board_limit h) refl in
    record { answers = rw x refl; buffer = rw x refl }

pub whole_write : (s : Session) (before after : List ℕ) (r : ℕ) → sound? s ≡ true → board_limit ≤ length before
    → WrittenWords (board_words s) before after r → WritePromise s before (Ok r) after
unfolding write_board
whole_write s before after r e h w =
    let x : write_board s (length before) ≡ yes (board_words s) = rw (e, le-ltb (length before) board_limit h) refl in
    record { answers = rw x (ap (λ (n : ℕ). yes n) w.count); buffer = rw x w.buffer }
