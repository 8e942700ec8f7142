-- `write_place` writes the word of what the place holds.
use native.Mathlib.Omega.{arith}
use Rattle.board_writing.specs.BufferLaws.{continues_one}
use Rattle.board_writing.proofs.write_place.Goals as goal

pub returns-in-Some : goal.returns-in-Some
returns-in-Some c =
    let args = c.args in
    rw (c.in-Some.is, ← c.pack_net.ensures) (continues_one args.out.now args.at c.pack_net.result (omega arith))
