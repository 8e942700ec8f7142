-- Demand 2: "A session written as words reads back with the same board and nets, and accepted words write back as the same words."
-- The same for the call that writes, with its buffer, and for bytes.
-- Assumes what each statement names: that the session is sound, or that the words were accepted.
use Rattle.std.specs.Prelude.{◌≡◌, refl, not, List, [], ◌∷◌, ℕ, ◌≤◌, ltb, length, take, drop}
use Rattle.std.proofs.Common.{◌∙◌, arith, take_at, le-ltb}
use Rattle.std.proofs.lemmas.Bool.{not-false}
use Rattle.session_rules.specs.Refusal.{line, first_refusal}
use Rattle.session_rules.specs.Session.{nothing_kept, Session}
use Rattle.session_rules.specs.Sound.{Sound, sound?}
use Rattle.session_laws.proofs.Exact.{sound_exact}
use Rattle.words.specs.Bytes.{words_in, bytes_of}
use Rattle.call_rules.specs.Result.{Result, no, yes}
use Rattle.call_rules.specs.Reading.{board_limit, read_words, read_bytes}
use Rattle.call_rules.specs.Writing.{board_words, write_board, count_of, buffer_after}
use Rattle.board_roundtrip.specs.Parts.{Bytes, as_read}
use Rattle.call_rules.proofs.Results.{yes_same, passed, line_passed}
use Rattle.board_roundtrip.specs.Written.{words-read}
use Rattle.board_roundtrip.specs.Read.{read_holds}
use Rattle.board_roundtrip.specs.InBytes.{words_back, bytes_even, bytes_back, sound_words, even_read, read_even}

-- ── words ──
-- "A session written as words reads back with the same board and nets"; "Reading gives a session with an empty pile."
pub written_reads : (s : Session) → Sound s → read_words (board_words s) ≡ yes (as_read s)
written_reads s h = words-read s h

-- "accepted words write back as the same words"
pub read_writes : (ws : List ℕ) (s : Session) → read_words ws ≡ yes s → board_words s ≡ ws
read_writes ws s e = (read_holds ws s e).words

-- what is read is a sound session with an empty pile and nothing kept (document 02, §5),
pub read_sound : (ws : List ℕ) (s : Session) → read_words ws ≡ yes s → Sound s
read_sound ws s e = (read_holds ws s e).sound

pub read_unpiled : (ws : List ℕ) (s : Session) → read_words ws ≡ yes s → s.pile ≡ []
read_unpiled ws s e = (read_holds ws s e).bare_pile

pub read_none_kept : (ws : List ℕ) (s : Session) → read_words ws ≡ yes s → s.names ≡ nothing_kept
read_none_kept ws s e = (read_holds ws s e).none_kept

-- which, written, reads back as itself
pub read_again : (ws : List ℕ) (s : Session) → read_words ws ≡ yes s → read_words (board_words s) ≡ yes s
read_again ws s e = rw (read_writes ws s e) e

-- ── the call that writes ──
-- what it writes is of a sound session,
write_yes : (s : Session) (room : ℕ) (ws : List ℕ) → write_board s room ≡ yes ws → Sound s × (board_words s ≡ ws)
unfolding write_board
write_yes s room ws e =
    let p = passed (first_refusal (line (not (sound? s)) 20 0 ∷ line (ltb room board_limit) 18 0 ∷ [])) (yes (board_words s)) ws e in
    let n = (line_passed (not (sound? s)) 20 0 (line (ltb room board_limit) 18 0 ∷ []) p.0).0 in
    ((sound_exact s).0 (not-false (sound? s) n), yes_same (board_words s) ws p.1)

-- and reads back
pub write_reads : (s : Session) (room : ℕ) (ws : List ℕ) → write_board s room ≡ yes ws → read_words ws ≡ yes (as_read s)
write_reads s room ws e = let k = write_yes s room ws e in rw (← k.1) (written_reads s k.0)

-- from the start of the buffer, as many words as the answer says
pub buffer_reads : (s : Session) (buffer : List ℕ) (n : ℕ) → count_of (write_board s (length buffer)) ≡ yes n
    → read_words (take n (buffer_after buffer (write_board s (length buffer)))) ≡ yes (as_read s)
buffer_reads s buffer n e = go (write_board s (length buffer)) refl e
  where
    go : (r : Result (List ℕ)) → write_board s (length buffer) ≡ r → count_of r ≡ yes n
        → read_words (take n (buffer_after buffer r)) ≡ yes (as_read s)
    go (no x) f e = absurd (let z : ◌≡◌ {A = ℕ} 0 1 = cc in omega arith)
    go (yes ws) f e =
        let k : length ws ≡ n = yes_same (length ws) n e in
        rw (← k, take_at ws (drop (length ws) buffer)) (write_reads s (length buffer) ws f)

-- accepted words are written back, where there is room
pub read_written : (ws : List ℕ) (s : Session) (room : ℕ) → board_limit ≤ room → read_words ws ≡ yes s → write_board s room ≡ yes ws
unfolding write_board
read_written ws s room h e = rw ((sound_exact s).1 (read_sound ws s e), le-ltb room board_limit h, read_writes ws s e) refl

-- ── bytes ──
pub written_bytes_read : (s : Session) → Sound s → read_bytes (bytes_of (board_words s)) ≡ yes (as_read s)
written_bytes_read s h =
    even_read (bytes_of (board_words s)) (bytes_even (board_words s)) ∙ rw (words_back (board_words s) (sound_words s h)) (written_reads s h)

pub read_bytes_write : (bs : List ℕ) (s : Session) → Bytes bs → read_bytes bs ≡ yes s → bytes_of (board_words s) ≡ bs
read_bytes_write bs s h e =
    let k = read_even bs s e in
    rw (read_writes (words_in bs) s k.1) (bytes_back bs h k.0)

pub read_bytes_sound : (bs : List ℕ) (s : Session) → read_bytes bs ≡ yes s → Sound s
read_bytes_sound bs s e = read_sound (words_in bs) s (read_even bs s e).1

pub read_bytes_none_kept : (bs : List ℕ) (s : Session) → read_bytes bs ≡ yes s → s.names ≡ nothing_kept
read_bytes_none_kept bs s e = read_none_kept (words_in bs) s (read_even bs s e).1
