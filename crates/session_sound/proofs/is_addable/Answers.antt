-- `is_addable` asks of each place whether there is room by the counts, which are those of all terminals.
use Rattle.std.proofs.Common.{sym, ◌∙◌, Bool, length, ◌≤◌, take_all, arith, rules}
use Rattle.std.proofs.lemmas.List.Folds.{list_all_more, list_all_at}
use Rattle.count.specs.TruthLaws.{and_yes}
use Rattle.board_block.specs.View.{block_of}
use Rattle.net.specs.View.{Held, nothing, pairs_of}
use Rattle.session_sound.specs.Room.{counted_at, held_room}
use Rattle.session_sound.specs.RoomLaws.{counted_all}
use Rattle.session_sound.proofs.is_addable.Goals as goal

pub loop-place-preserved : goal.loop-place-preserved
loop-place-preserved c =
    let at = c.loop-place in
    let p : Held → Bool = held_room (block_of c.args.b) (counted_at c.count_terminals-counts.result) in
    rw (list_all_more p c.args.nets at.place-index nothing (omega arith))
    (and_yes _ _ at.invariant (sym c.has_room.ensures ∙ c.if-not-has_room.false))

pub returns-then-not-has_room : goal.returns-then-not-has_room
returns-then-not-has_room c =
    let b = block_of c.args.b in
    let nets = c.args.nets in
    let counts = c.count_terminals-counts in
    let p : Held → Bool = held_room b (counted_at counts.result) in (
      sym (list_all_at p nets c.loop-place.place-index nothing (omega arith) (sym c.has_room.ensures ∙ c.if-not-has_room.true))
          ∙ counted_all b (pairs_of nets) counts.result counts.ensures nets,
      search rules,
    )

pub returns : goal.returns
returns c =
    let b = block_of c.args.b in
    let nets = c.args.nets in
    let counts = c.count_terminals-counts in
    let at = c.loop-place in
    let end : length nets ≤ at.place-index = omega arith in
    (sym (rw (take_all at.place-index nets end) at at.invariant) ∙ counted_all b (pairs_of nets) counts.result counts.ensures nets, search rules)
