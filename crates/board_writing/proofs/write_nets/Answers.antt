-- `write_nets` writes the words of the nets.
use native.Mathlib.Omega.{arith}
use Rattle.board_writing.specs.Words.{held_word, net_words}
use Rattle.board_writing.specs.WordsLaws.{net_words_more, net_words_le}
use Rattle.board_writing.specs.BufferLaws.{continues_none, continues_more}
use Rattle.net_places.specs.Places.{nets_from, nets_of}
use Rattle.net.specs.View.{nothing}
use borrow.Author.Rules.{rules}
use lib.ListN.{length, get_or}
use mathlib.Core.Path.{◌≡◌, ap}
use Prim.Native.Nat.{◌+◌}
use Rattle.board_writing.proofs.write_nets.Goals as goal

pub loop-i-init : goal.loop-i-init
unfolding net_words nets_of nets_from
loop-i-init c = (omega arith, c.requires, search rules, continues_none c.args.out.now c.args.from)

pub write_place-at-requires : goal.write_place-at-requires
write_place-at-requires c = omega (arith, c.loop-i.invariant.3.size)

pub loop-i-preserved : goal.loop-i-preserved
loop-i-preserved c =
    let write-place = c.write_place-at in
    let at = c.loop-i in
    let ps = c.args.nets in
    let more = continues_more (net_words ps at.i) (held_word (at.i + 1) (get_or ps at.i nothing)) c.args.out.now at.out _ c.args.from
    at.at _ at.invariant.3 write-place.ensures in (
      omega (arith, more.index, net_words_le ps (at.i + 1) (omega arith), ap length (net_words_more ps at.i (omega arith))),
      at.invariant.1,
      at.invariant.2,
      rw (net_words_more ps at.i (omega arith)) more,
    )

pub returns : goal.returns
returns c = let e : c.loop-i.i ≡ 64 = omega arith in rw e at c.loop-i.invariant.3
