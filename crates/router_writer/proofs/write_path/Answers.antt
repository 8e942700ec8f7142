-- `write_path` writes the runs one by one and then the path word: `Partly` holds at each turn of the loop.
use native.Mathlib.Omega.{arith}
use mathlib.Core.Path.{ap, ◌∙◌}
use Rattle.board.specs.declared.Direction.{Direction}
use Rattle.words.specs.RoutingWord.{direction, run, run_word}
use Rattle.router_writer.specs.Runs.{partly_none, partly_next, partly_all}
use Rattle.router_writer.proofs.write_path.Goals as goal

pub loop-from-init : goal.loop-from-init
loop-from-init c = partly_none c.args.dirs.now c.args.out.now

pub overflow_cast-n : goal.overflow_cast-n
overflow_cast-n c = omega (arith, c.run_length-n.ensures.within)

pub overflow_add-from : goal.overflow_add-from
overflow_add-from c = omega (arith, c.run_length-n.ensures.within)

pub loop-from-smaller : goal.loop-from-smaller
loop-from-smaller c =
    let run_length = c.run_length-n in
    let loop-test = c.loop-from-test in
    omega (arith, run_length.ensures.some, run_length.ensures.within, loop-test.true)

pub loop-from-preserved : goal.loop-from-preserved
loop-from-preserved c =
    let put = c.put in
    let run-word = c.run_word in
    let direction-of = c.direction_of-d in
    let run_length = c.run_length-n in
    let loop = c.loop-from in
    rw put.ensures (partly_next loop.invariant run_length.ensures
    (run-word.ensures ∙ ap (λ (d : Direction). run_word (run d run_length.result)) (direction-of.ensures ∙ ap direction c.from.ensures)))

pub returns : goal.returns
returns c =
    let put2 = c.put-2 in
    let pack-path = c.pack_path in
    let loop-test = c.loop-from-test in
    let loop = c.loop-from in
    let args = c.args in
    rw put2.ensures (partly_all args.net loop.invariant loop-test.false pack-path.ensures)
