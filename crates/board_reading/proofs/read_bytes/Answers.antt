-- `read_bytes` reads the words of the bytes.
use native.Mathlib.Omega.{arith}
use Prim.Native.Nat.{ℕ}
use lib.ListN.{length-replicate}
use Rattle.words_bytes.specs.WordsLaws.{told-uneven, told-long, told-words}
use Rattle.call_rules.specs.Reading.{read_bytes}
use Rattle.board_reading.proofs.PromiseLaws.{bytes-uneven, bytes-long, bytes-words}
use Rattle.board_reading.proofs.read_bytes.Goals as goal

pub returns-in-Ok : goal.returns-in-Ok
returns-in-Ok c = rw (bytes-words c.args.bytes.now (told-words c.fill_all.ensures c.in-Ok.is)) c.read_words.ensures

pub returns-in-Err-Uneven : goal.returns-in-Err-Uneven
returns-in-Err-Uneven c =
    c.handed_back.ensures (read_bytes c.args.bytes.now) (bytes-uneven c.args.bytes.now (told-uneven c.fill_all.ensures (cc)))

pub returns-in-Err-Long : goal.returns-in-Err-Long
returns-in-Err-Long c =
    let (even, long) = told-long c.fill_all.ensures (cc) in
    c.handed_back-in-Err-Long.ensures (read_bytes c.args.bytes.now)
    (bytes-long c.args.bytes.now even (omega (arith, long, length-replicate {A = ℕ} 224 0)))
