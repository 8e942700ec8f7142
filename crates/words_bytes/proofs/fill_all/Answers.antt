-- `fill_all` fills in all words, or none where the bytes are not whole words or there is too little room.
use native.Mathlib.Omega.{arith}
use mathlib.Core.Path.{refl, sym}
use Rattle.words_bytes.specs.WordsLaws.{uneven_bytes, even_bytes, words_length, all_filled}
use Rattle.words_bytes.proofs.fill_all.Goals as goal

pub returns-then-bytes-ne0 : goal.returns-then-bytes-ne0
returns-then-bytes-ne0 c = record { tells = (uneven_bytes c.args.bytes.now c.if-bytes-ne0.true, refl) }

pub returns-then-out-n : goal.returns-then-out-n
returns-then-out-n c =
    let if1 = c.if-bytes-ne0 in
    let args = c.args in
    record { tells = (even_bytes args.bytes.now if1.false, omega (arith, words_length args.bytes.now, c.if-out-n.true), refl) }

pub returns : goal.returns
returns c =
    let fill-words = c.fill_words in
    let if2 = c.if-out-n in
    let if1 = c.if-bytes-ne0 in
    let args = c.args in
    let n = sym (words_length args.bytes.now) in
    record {
      tells = (
        even_bytes args.bytes.now if1.false,
        n,
        omega (arith, if2.false),
        all_filled args.bytes.now args.out.now _ _ n fill-words.ensures,
      );
    }
