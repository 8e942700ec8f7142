-- The definitions of reading at work: each refusal of a board's words, with its place, and which of two comes first.
-- Assumes nothing.
use Rattle.std.specs.Prelude.{◌≡◌, refl, [], ◌∷◌, map, replicate}
use Rattle.session_rules.specs.Sound.{blank}
use Rattle.words.specs.Bytes.{bytes_of}
use Rattle.call_rules.specs.Result.{yes}
use Rattle.call_rules.specs.Reading.{read_words, read_bytes, handed_back}
use Rattle.call_rules.specs.Writing.{board_words}
use Rattle.worked_cases.specs.Everything.{everything}
use Rattle.worked_cases.specs.Boards.{ring, ring_input, why}

-- the ring is written back as the words that it is read from
ring_written : board_words ring ≡ ring_input
unfolding everything
ring_written = refl

ring_bytes : read_bytes (bytes_of ring_input) ≡ yes ring
unfolding everything
ring_bytes = refl

-- 10 before 11: three bytes, no word
three_bytes : why (read_bytes (1 ∷ 2 ∷ 3 ∷ [])) ≡ 10 ∷ 0 ∷ []
unfolding everything
three_bytes = refl

-- 11: 225 words, but not 224 (02, §8)
too-many : why (read_words (replicate 225 0x10000001)) ∷ why (read_words (replicate 224 0x10000001)) ∷ [] ≡ (11 ∷ 0 ∷ []) ∷ (14 ∷ 31 ∷ []) ∷ []
unfolding everything
too-many = refl

-- word lists, and the refusal that each gets
refusals : map (λ ws. why (read_words ws)) (
    -- 11: no words
    []
    ∷  -- 12: another kind
    (0x40000000 ∷ [])
    ∷  -- 12: an unnamed bit of a row
    (0x10000401 ∷ [])
    ∷  -- 12: an unnamed bit of the end
    (0x10000001 ∷ 0xF0010100 ∷ [])
    ∷  -- 12 before 13: the first word has another kind
    (0x00000000 ∷ 0x10000001 ∷ [])
    ∷  -- 13: the first word no row
    (0x20100021 ∷ [])
    ∷  -- 13: the end first
    (0xF0000000 ∷ [])
    ∷  -- 13: row after net
    (0x10000001 ∷ 0x20100021 ∷ 0x10000001 ∷ [])
    ∷  -- 13: net number not above the last
    (0x10000001 ∷ 0x20200021 ∷ 0x20200021 ∷ [])
    ∷  -- 13: number 0 after another
    (0x10000001 ∷ 0x20200021 ∷ 0x20000021 ∷ [])
    ∷  -- 13: word after the end
    (0x10000001 ∷ 0xF0000100 ∷ 0x10000001 ∷ [])
    ∷  -- 12 before 13: a word of another kind after the end
    (0x10000001 ∷ 0xF0000100 ∷ 0x40000000 ∷ [])
    ∷  -- 13: list over without an end
    (0x10000001 ∷ 0x20100021 ∷ [])
    ∷  -- 14: left not below right
    (0x10000021 ∷ 0xF0000100 ∷ [])
    ∷  -- 13 before 14: a bad row after a net
    (0x10000001 ∷ 0x20100021 ∷ 0x10000021 ∷ [])
    ∷  -- 14: a 32nd row
    (replicate 32 0x10000001)
    ∷  -- 15: count of rows
    (0x10000001 ∷ 0xF0000200 ∷ [])
    ∷  -- 15: count of nets
    (0x10000001 ∷ 0xF0000101 ∷ [])
    ∷  -- 15 before 16: case f with a wrong count
    (0x10000001 ∷ 0x10000022 ∷ 0xF0000100 ∷ [])
    ∷  -- 16: case f
    (0x10000001 ∷ 0x10000022 ∷ 0xF0000200 ∷ [])
    ∷  -- 16 before 21: case f with a bad net
    (0x10000001 ∷ 0x10000022 ∷ 0x20000021 ∷ 0xF0000201 ∷ [])
    ∷  -- 21: number 0 in the first net word
    (0x10000001 ∷ 0x20000021 ∷ 0xF0000101 ∷ [])
    ∷  -- 21: number 65
    (0x10000001 ∷ 0x20100021 ∷ 0x24100021 ∷ 0xF0000102 ∷ [])
    ∷  -- 23: terminal no vertex
    (0x10000001 ∷ 0x20100041 ∷ 0xF0000101 ∷ [])
    ∷  -- 24: same vertex twice
    (0x10000001 ∷ 0x20100000 ∷ 0xF0000101 ∷ [])
    ∷  -- 25: pins all taken
    (0x10000001 ∷ 0x20100021 ∷ 0x20200020 ∷ 0x20300001 ∷ 0xF0000103 ∷ [])
    ∷ [])
    ≡ (11 ∷ 0 ∷ [])
    ∷ (12 ∷ 0 ∷ [])
    ∷ (12 ∷ 0 ∷ [])
    ∷ (12 ∷ 1 ∷ [])
    ∷ (12 ∷ 0 ∷ [])
    ∷ (13 ∷ 0 ∷ [])
    ∷ (13 ∷ 0 ∷ [])
    ∷ (13 ∷ 2 ∷ [])
    ∷ (13 ∷ 2 ∷ [])
    ∷ (13 ∷ 2 ∷ [])
    ∷ (13 ∷ 2 ∷ [])
    ∷ (12 ∷ 2 ∷ [])
    ∷ (13 ∷ 2 ∷ [])
    ∷ (14 ∷ 0 ∷ [])
    ∷ (13 ∷ 2 ∷ [])
    ∷ (14 ∷ 31 ∷ [])
    ∷ (15 ∷ 1 ∷ [])
    ∷ (15 ∷ 1 ∷ [])
    ∷ (15 ∷ 2 ∷ [])
    ∷ (16 ∷ 0 ∷ [])
    ∷ (16 ∷ 0 ∷ [])
    ∷ (21 ∷ 1 ∷ [])
    ∷ (21 ∷ 2 ∷ [])
    ∷ (23 ∷ 1 ∷ [])
    ∷ (24 ∷ 1 ∷ [])
    ∷ (25 ∷ 3 ∷ [])
    ∷ []
unfolding everything
refusals = refl

-- "A refused reading gives the blank session"
refused_blank : handed_back (read_words []) ≡ blank
unfolding everything
refused_blank = refl
