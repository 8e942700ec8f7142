-- `is_alike` compares two maps. The invariant: the slots before the next pair's are compared.
use native.Mathlib.Omega.{arith}
use mathlib.Core.Bool.{Bool}
use mathlib.Core.List.{List}
use mathlib.Core.Path.{◌≡◌}
use Prim.Native.Nat.{ℕ}
use Rattle.std.proofs.Common.{length-append}
use Rattle.std.proofs.lemmas.Bool.Decides.{nat_tests}
use Rattle.std.proofs.lemmas.Slice.Zip.{zip_turn, zip_end}
use Rattle.judge_alike.specs.Slotwise.{Testing, testing_start, testing_on, testing_done}
use Rattle.judge_alike.proofs.is_alike.Goals as goal

-- the outcome in whatever form the code tells it
outcome : {a m : List ℕ} {i : ℕ} {t u : Bool} → Testing a m i t → u ≡ t → Testing a m i u
outcome h e = rw e h

pub loop-one-init : goal.loop-one-init
loop-one-init c = testing_start

pub loop-one-preserved : goal.loop-one-preserved
loop-one-preserved c =
    let turn = zip_turn c.args.first.now c.args.second.now c.loop-one.yielded c.into_iter-one-iterator.result c.loop-one.one-iterator
    c.next.new.self c.next.result (cc) (cc) c.loop-one.yielded_by _ c.in-Some.is c.next.ensures.steps in
    rw length-append (outcome (testing_on c.loop-one.invariant (omega arith) (turn.2 0) (turn.3 0)) (grind (arith, nat_tests)))

pub returns : goal.returns
returns c =
    let end = zip_end c.args.first.now c.args.second.now c.loop-one.yielded c.into_iter-one-iterator.result c.loop-one.one-iterator
    c.next.new.self c.next.result (cc) (cc) c.loop-one.yielded_by c.in-None.is c.next.ensures.steps in
    testing_done c.loop-one.invariant (omega arith)
