-- Definitions only: a buffer of bytes with one word put in, and with words at its start. Nothing is proved here.
use Rattle.std.specs.Prelude.{List, ◌++◌, ℕ, ◌+◌, ◌*◌, ◌/◌, ◌%◌, length, set, drop}
use Rattle.words.specs.Bytes.{bytes_of}

-- the four bytes of the word w from index `at` on, lowest first
abbrev pub with_word : List ℕ → (at w : ℕ) → List ℕ
with_word out at w = set (set (set (set out at (w % 256)) (at + 1) (w / 256 % 256)) (at + 2) (w / 65536 % 256)) (at + 3) (w / 16777216 % 256)

-- the bytes of the words at the start of the buffer, and the rest as it was
abbrev pub put_into : List ℕ → List ℕ → List ℕ
put_into out ws = bytes_of ws ++ drop (4 * length ws) out
